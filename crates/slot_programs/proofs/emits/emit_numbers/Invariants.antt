use Rattle.std.proofs.Common.{◌≡◌, ◌++◌, map, drop}
use Rattle.p4_parts.specs.PartsIn.{parts_in}
use Rattle.p4_parts.specs.Paths.{path_in}
use Rattle.slot_terms.specs.Places.{places_of}
use Rattle.slot_deparsers.specs.Emits.{numbers_of}
use Rattle.slot_programs.proofs.emits.emit_numbers.Given as goal

abbrev pub invariant-loop-path : goal.invariant-loop-path
invariant-loop-path l = l.numbers.items ++ numbers_of (places_of l.places).headers (map path_in (drop l.path-index l.p.emits.items)) ≡ numbers_of (places_of l.places).headers (parts_in l.p).emits
