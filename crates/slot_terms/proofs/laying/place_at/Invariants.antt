use Rattle.std.proofs.Common.{◌≡◌, map, drop}
use Rattle.slot_terms.specs.Places.{place_at, place_of}
use Rattle.slot_terms.proofs.laying.place_at.Given as goal

abbrev pub invariant-loop-i : goal.invariant-loop-i
invariant-loop-i l = place_at (map place_of (drop l.i l.places.rows.items)) l.path ≡ place_at (map place_of l.places.rows.items) l.path
