use Rattle.std.proofs.Common.{◌≡◌, map, take}
use Rattle.p4_parts.specs.Headers.{header_in}
use Rattle.slot_terms.specs.Places.{path_of}
use Rattle.slot_places.specs.ProgramRows.{path_in}
use Rattle.slot_places.proofs.declared.header_paths.Given as goal

abbrev pub invariant-loop-h : goal.invariant-loop-h
invariant-loop-h l = map path_of l.paths.items ≡ map path_in (map header_in (take l.h-index l.headers))
