use Rattle.std.proofs.Common.{◌≡◌, ◌+◌, map, drop}
use Rattle.p4_parts.specs.PartsIn.{table_in}
use Rattle.p4_tables.specs.Named.{table_place}
use Rattle.loaded_tables.proofs.numbering.place_of.Given as goal

abbrev pub invariant-loop-i : goal.invariant-loop-i
invariant-loop-i l = l.i + table_place (map table_in (drop l.i l.tables)) l.name ≡ table_place (map table_in l.tables) l.name
