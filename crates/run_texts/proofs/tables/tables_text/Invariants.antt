use Rattle.std.proofs.Common.{◌≡◌, map, take, string_bytes}
use Rattle.indus_tree.specs.View.{decl_of}
use Rattle.run_texts.specs.Tables.{tables_lines}
use Rattle.run_texts.proofs.tables.tables_text.Given as goal

-- the tables so far
abbrev pub invariant-loop-row : goal.invariant-loop-row
invariant-loop-row l = string_bytes l.text ≡ tables_lines (map decl_of l.decls) (take l.row-index l.rows.tables.items)
