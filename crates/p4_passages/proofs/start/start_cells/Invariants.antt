use Rattle.std.proofs.Common.{◌≡◌, map, take}
use Rattle.p4_parts.specs.PartsIn.{cells_decl}
use Rattle.p4_passages.specs.Rows.{row_at_start}
use Rattle.p4_passages.proofs.start.start_cells.Given as goal

abbrev pub invariant-loop-declared : goal.invariant-loop-declared
invariant-loop-declared l = l.rows.items ≡ map row_at_start (map cells_decl (take l.declared-index l.list))
