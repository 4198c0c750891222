-- The capture of a host: the frames of the packets that it sends, in order.
use Rattle.std.specs.Prelude.{ℕ, ◌/◌, ◌%◌, ◌==◌, List, ◌++◌, map, codes}
use Rattle.std.specs.Fmt.{decimal}
use Rattle.std.specs.List.{filter}
use Rattle.pcap_io.specs.Record.{Record}
use Rattle.pcap_io.specs.Written.{capture_bytes}
use Rattle.load_maker.specs.Frames.{frame}
use Rattle.load_maker.specs.declared.packet.Packet.{Packet}

-- its time: a second for each thousand packets before it, and a microsecond for each other one
abbrev pub record_for : Packet → Record
record_for p = record { seconds = p.number / 1000; micros = p.number % 1000; bytes = frame p }

abbrev pub sent_by : (host : ℕ) → List Packet → List Packet
sent_by k ps = filter (λ p. p.source.number == k) ps

abbrev pub capture : (host : ℕ) → List Packet → List ℕ
capture k ps = capture_bytes (map record_for (sent_by k ps))

abbrev pub capture_name : (out : List ℕ) → (host : ℕ) → List ℕ
capture_name out k = out ++ (codes ".h" ++ (decimal k ++ codes ".pcap"))
