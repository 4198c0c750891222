use Rattle.std.proofs.Common.{◌≡◌, map, length}
use Rattle.slot_terms.specs.Places.{place_of}
use Rattle.slot_places.specs.ProgramPlaces.{are_apart}
use Rattle.slot_places.proofs.apart.are_apart.Given as goal

abbrev pub invariant-loop-left : goal.invariant-loop-left
invariant-loop-left l = are_apart (map place_of l.left) ≡ are_apart (map place_of l.rows)

abbrev pub decreases-loop-left : goal.decreases-loop-left
decreases-loop-left l = length l.left
