use Rattle.std.proofs.Common.{◌+◌, ◌-◌, ◌++◌, string_bytes, ap, ◌∙◌, arith}
use Rattle.p4_meaning.specs.Statements.{cell_at}
use Rattle.p4_machine.specs.Passages.{name_or}
use Rattle.report_writer.specs.Texts.{cells_of}
use Rattle.register_texts.specs.Rows.{cell_if, cells_from}
use Rattle.register_texts.proofs.Rows.{cells_more, cell_next}
use Rattle.register_texts.proofs.cells.register_text.Goals as goal

pub loop-index-preserved : goal.loop-index-preserved
loop-index-preserved g c =
    let n = c.args.name.now in
    let shown = c.args.shown.now in
    let r = c.args.register.now in
    let cells = g.P.Pass.cells c.args.switch.now r.name in
    let i = c.loop-index.index in
    let piece = cell_if n shown i (cell_at cells i).value in
    let rest = cells_from n shown cells (i + 1) (r.count - (i + 1)) in
    let read = c.cell-value.ensures ∙ ap (λ o. cell_at (g.P.Pass.cells c.args.switch.now (name_or o)) i) c.requires in
    let line = c.as_str.ensures.value ∙ c.in_ok-line.ensures ∙ ap (λ w. cells_of (cell_if n shown i w.value)) read in
    ap (λ t. t ++ cells_of rest) c.in_ok-push_str.ensures.bytes
    ∙ cells_more (string_bytes c.loop-index.text) _ _ _ piece rest c.loop-index.invariant (cell_next n shown cells i r.count (omega (arith, c.in_ok-index-end.ensures))) line
