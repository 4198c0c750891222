use Rattle.std.proofs.Common.{map, arith}
use Rattle.std.proofs.lemmas.List.{length-map}
use Rattle.indus_tree.specs.View.{decl_of}
use Rattle.p4_parts.specs.PartsIn.{table_in}
use Rattle.loaded_tables.proofs.Numbered.{row_is}
use Rattle.loaded_tables.proofs.numbering.mapped.Goals as goal

pub returns : goal.returns
returns c =
    let declared = c.requires.declared in
    row_is (map table_in c.args.parts.now.tables.items) c.args.tables.now c.args.decls.now c.args.row.now c.in_ok-table.table c.first_action-action.result c.in_ok-decl.decl c.index-decls-row.result
    c.in_ok-table.ensures c.first_action-action.ensures (omega (arith, declared, length-map c.args.decls.now decl_of)) c.index-decls-row.is c.in_ok-decl.ensures
