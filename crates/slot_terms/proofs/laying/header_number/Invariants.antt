use Rattle.std.proofs.Common.{◌≡◌, ◌+◌, map, drop}
use Rattle.std.specs.Option.{option_map}
use Rattle.slot_terms.specs.Places.{header_number, path_of}
use Rattle.slot_terms.proofs.laying.header_number.Given as goal

abbrev pub invariant-loop-i : goal.invariant-loop-i
invariant-loop-i l = option_map (λ n. l.i + n) (header_number (map path_of (drop l.i l.headers)) l.path) ≡ header_number (map path_of l.headers) l.path
