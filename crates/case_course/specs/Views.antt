-- What is read, without where it lies in memory.
use Rattle.std.specs.Prelude.{map}
use Rattle.p4_tree.specs.View.{program_of}
use Rattle.network_course.specs.Views.{place_views}
use Rattle.path_runner.specs.Packets.{arrival_of}
use Rattle.run_captures.specs.Views.{time_view}
use Rattle.case_course.specs.Course as course
use Rattle.case_course.specs.Packets as packets
use Rattle.case_course.specs.declared.start.Ground.{Ground}
use Rattle.case_course.specs.declared.packets.Packets.{Packets}

abbrev pub ground_of : Ground → course.Ground
ground_of g = record { program = program_of g.program; network = g.network; places = place_views g.places.items }

abbrev pub packets_view : Packets → packets.Packets
packets_view p = record { arrivals = map arrival_of p.packets.items; times = map time_view p.times.items }
