use Rattle.std.proofs.Common.{◌≡◌, ◌++◌, map, take}
use Rattle.std.specs.List.{flat_map}
use Rattle.pcap_io.specs.Written.{header_bytes, record_bytes}
use Rattle.run_captures.specs.Captures.{record_for}
use Rattle.run_captures.specs.Views.{time_view, lent_view}
use Rattle.run_captures.proofs.captures.capture.Given as goal

-- the frames that were met are written behind the header
abbrev pub invariant-loop-x : goal.invariant-loop-x
invariant-loop-x l = l.file.items ≡ header_bytes ++ flat_map record_bytes (map (record_for (map time_view l.times)) (map lent_view (take l.x-index l.frames)))
