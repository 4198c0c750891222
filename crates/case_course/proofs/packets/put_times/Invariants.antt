use Rattle.std.proofs.Common.{◌≡◌, ◌++◌, map, take}
use Rattle.pcap_io.specs.Record.{records_of}
use Rattle.run_captures.specs.Views.{time_view}
use Rattle.case_course.specs.Packets.{time_at}
use Rattle.case_course.proofs.packets.put_times.Given as goal

abbrev pub invariant-loop-c : goal.invariant-loop-c
invariant-loop-c l = map time_view l.times.items ≡ map time_view l.initial.times.items ++ map time_at (records_of (take l.c-index l.captured))
