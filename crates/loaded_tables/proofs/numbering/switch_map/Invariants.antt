use Rattle.std.proofs.Common.{◌≡◌, map, take}
use Rattle.indus_tree.specs.View.{decl_of}
use Rattle.p4_tree.specs.View.{program_of}
use Rattle.set_contents.specs.Maps.{map_of}
use Rattle.loaded_tables.specs.Rows.{numbered_rows}
use Rattle.loaded_tables.proofs.numbering.switch_map.Given as goal

-- the rows so far are numbered
abbrev pub invariant-loop-row : goal.invariant-loop-row
invariant-loop-row l = map_of l.all.items ≡ numbered_rows (program_of l.program) (map decl_of l.decls) (take l.row-index l.rows.tables.items)
