-- The captures that a run writes: one for each switch and port by which a frame left. Read `Network` of the network's
-- run and `Written` of pcap_io before it.
use Rattle.std.specs.Prelude.{ℕ, zero, suc, ◌+◌, ◌==◌, ◌&&◌, List, [], ◌∷◌, ◌++◌, get_or, codes, if◌then◌else◌}
use Rattle.std.specs.Fmt.{decimal}
use Rattle.network_run.specs.Network.{Sent}
use Rattle.pcap_io.specs.Record.{Record}
use Rattle.pcap_io.specs.Written.{capture_bytes}

-- when a packet was captured
pub record Time : Type 0 where
  pub seconds : ℕ
  pub micros : ℕ

abbrev pub time_of : List Time → (packet : ℕ) → Time
time_of ts i = get_or ts i (record { seconds = 0; micros = 0 })

-- a frame keeps the time of its packet
abbrev pub record_for : List Time → Sent → Record
record_for ts x = record { seconds = (time_of ts x.packet).seconds; micros = (time_of ts x.packet).micros; bytes = x.frame }

-- the frames that a switch sent by a port, in the order in which they were sent
abbrev pub frames_at : List Time → (switch port : ℕ) → List Sent → List Record
frames_at ts s p [] = []
frames_at ts s p (x ∷ xs) = if x.switch == s && x.port == p then record_for ts x ∷ frames_at ts s p xs else frames_at ts s p xs

-- what is asked of the names of files: the front of all names, and what kind of frames they hold
pub record Front : Type 0 where
  pub out : List ℕ
  pub kind : List ℕ

abbrev pub capture_name : Front → (switch : List ℕ) → (port : ℕ) → List ℕ
capture_name f s p = f.out ++ (codes "." ++ (f.kind ++ (codes "." ++ (s ++ (codes "." ++ (decimal p ++ codes ".pcap"))))))

-- a file is written only where there is a frame
abbrev pub port_file : Front → (switch : List ℕ) → (port : ℕ) → List Record → List (List ℕ × List ℕ)
port_file f s p [] = []
port_file f s p (r ∷ rs) = (capture_name f s p, capture_bytes (r ∷ rs)) ∷ []

-- the files of the ports of a switch from p on, so many
abbrev pub ports_files : Front → (name : List ℕ) → List Time → List Sent → (switch port count : ℕ) → List (List ℕ × List ℕ)
ports_files f n ts xs s p zero = []
ports_files f n ts xs s p (suc c) = port_file f n p (frames_at ts s p xs) ++ ports_files f n ts xs s (p + 1) c

-- those of a switch, whose ports are 0 to 510
unfoldable pub switch_files : Front → (name : List ℕ) → List Time → List Sent → (switch : ℕ) → List (List ℕ × List ℕ)
switch_files f n ts xs s = ports_files f n ts xs s 0 511

-- those of all switches, the first of which has the number s, by their names
abbrev pub switches_files : Front → List Time → List Sent → (switch : ℕ) → (names : List (List ℕ)) → List (List ℕ × List ℕ)
switches_files f ts xs s [] = []
switches_files f ts xs s (n ∷ ns) = switch_files f n ts xs s ++ switches_files f ts xs (s + 1) ns
