use Rattle.std.proofs.Common.{◌≡◌, map, length}
use Rattle.slot_terms.specs.Places.{path_of}
use Rattle.slot_places.specs.ProgramPlaces.{are_headers}
use Rattle.slot_places.proofs.apart.are_headers.Given as goal

abbrev pub invariant-loop-left : goal.invariant-loop-left
invariant-loop-left l = are_headers (map path_of l.left) ≡ are_headers (map path_of l.paths)

abbrev pub decreases-loop-left : goal.decreases-loop-left
decreases-loop-left l = length l.left
