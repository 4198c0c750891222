use Rattle.std.proofs.Common.{◌≡◌, map, drop}
use Rattle.slot_terms.specs.Places.{place_at, place_of}
use Rattle.slot_places.proofs.apart.is_among.Given as goal

abbrev pub invariant-loop-row : goal.invariant-loop-row
invariant-loop-row l = place_at (map place_of (drop l.row-index l.rows)) l.path ≡ place_at (map place_of l.rows) l.path
