use Rattle.std.proofs.Common.{ap, ◌∙◌, map, arith}
use Rattle.std.proofs.lemmas.List.{take_all}
use Rattle.std.proofs.lemmas.Result.{IfOk-weaker}
use Rattle.p4_parts.specs.PartsIn.{cells_decl}
use Rattle.p4_statements.specs.Runs.{cells_in}
use Rattle.p4_passages.specs.Rows.{row_at_start}
use Rattle.p4_passages.proofs.StartLemmas.{start_rows}
use Rattle.p4_passages.proofs.start.start_cells.Goals as goal

pub returns : goal.returns
returns c =
    let rows = start_rows c.loop-declared.rows.items (map cells_decl c.args.list.now)
    (c.loop-declared.invariant ∙ ap (λ l. map row_at_start (map cells_decl l)) (take_all c.loop-declared.declared-index c.args.list.now (omega arith))) in
    IfOk-weaker c.of.result _ _ (λ r is. ap cells_in is ∙ rows) c.of.ensures
