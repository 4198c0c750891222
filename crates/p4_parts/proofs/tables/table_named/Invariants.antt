use Rattle.std.proofs.Common.{◌≡◌, map, drop}
use Rattle.p4_meaning.specs.Tables.{table_named}
use Rattle.p4_parts.specs.PartsIn.{table_in}
use Rattle.p4_parts.proofs.tables.table_named.Given as goal

abbrev pub invariant-loop-t : goal.invariant-loop-t
invariant-loop-t l = table_named (map table_in (drop l.t-index l.tables)) l.x ≡ table_named (map table_in l.tables) l.x
