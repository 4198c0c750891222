use Rattle.std.proofs.Common.{◌≡◌, ◌++◌, map}
use Rattle.pcap_io.specs.Record.{records_of}
use Rattle.network_course.specs.Views.{place_view}
use Rattle.path_runner.specs.Packets.{arrival_of}
use Rattle.case_course.specs.Packets.{arrival_at}
use Rattle.case_course.proofs.packets.put_packets.Given as goal

abbrev pub invariant-loop-c : goal.invariant-loop-c
invariant-loop-c l =
    map arrival_of l.packets.items ++ map (arrival_at (place_view l.place)) (records_of l.c-iterator.rest.items)
    ≡ map arrival_of l.initial.packets.items ++ map (arrival_at (place_view l.place)) (records_of l.fn.captured.items)
