use Rattle.std.proofs.Common.{length, map, get_or, string_bytes, ap, ◌∙◌, arith}
use Rattle.indus_tree.specs.View.{decl_of}
use Rattle.run_texts.specs.Tables.{table_line}
use Rattle.run_texts.proofs.Lines.{table_more}
use Rattle.run_texts.proofs.tables.tables_text.Goals as goal

pub loop-row-preserved : goal.loop-row-preserved
loop-row-preserved c =
    let ds = map decl_of c.args.decls.now in
    let whole = c.deref-row-items.ensures.value in
    let item = c.row-item.is ∙ ap (λ rows. get_or rows c.loop-row.row-index c.row-item.result) whole in
    let line = c.as_str.ensures.value ∙ c.in_ok-line.ensures ∙ ap (table_line ds) item in
    c.in_ok-push_str.ensures.bytes
    ∙ table_more ds (string_bytes c.loop-row.text) _ c.args.rows.now.tables.items c.loop-row.row-index c.row-item.result (omega (arith, ap (λ rows. length rows) whole)) c.loop-row.invariant line
