use Rattle.std.proofs.Common.{◌≡◌, ◌++◌, map}
use Rattle.path_runner.specs.Starts.{in_flight}
use Rattle.path_runner.specs.Packets.{arrival_of}
use Rattle.path_runner.specs.Places.{place_in}
use Rattle.path_runner.proofs.handed.flights.Given as goal

abbrev pub invariant-loop-packet : goal.invariant-loop-packet
invariant-loop-packet g l =
    map place_in l.places.items ++ in_flight (map arrival_of l.packet-iterator.rest.items) ≡ in_flight (map arrival_of l.fn.packets.items)
