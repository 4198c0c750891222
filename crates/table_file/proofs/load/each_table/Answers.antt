use Rattle.std.proofs.Common.{◌∙◌}
use Rattle.std.proofs.lemmas.Result.{err_from_is_err_and}
use Rattle.json_parts.specs.Views.{field}
use Rattle.json_parts.proofs.TurnLemmas.{each_more, each_stop, each_end}
use Rattle.p4_tree.specs.View.{program_of}
use Rattle.table_file.specs.Tables.{with_table}
use Rattle.table_file.proofs.load.each_table.Goals as goal

pub returns-in_err-table-clause-answer : goal.returns-in_err-table-clause-answer
returns-in_err-table-clause-answer c =
    let p = err_from_is_err_and c.from_residual.result c.from_residual.ensures.1 in
    rw (p.1, p.2) (λ other. each_stop (with_table (program_of c.args.program.now) c.args.path.now) field c.loop-name.state c.loop-name.name-iterator _ c.loop-name.invariant.so_far (c.in-Some.name.now, c.in-Some.value.now) _ _ c.in-Some.ensures.steps (rw c.as_str.ensures.value at (c.in_err-table.ensures.answer other)))

pub loop-name-preserved : goal.loop-name-preserved
loop-name-preserved c = record {
  can = tt;
  finite = tt;
  so_far = each_more (with_table (program_of c.args.program.now) c.args.path.now) field c.loop-name.state c.loop-name.name-iterator _ c.loop-name.invariant.so_far (c.in-Some.name.now, c.in-Some.value.now) _ _ c.in-Some.ensures.steps (rw c.as_str.ensures.value at c.in_ok-table.ensures.answer);
  same = c.in_ok-table.ensures.shapes ∙ c.loop-name.invariant.same;
  of_program = record { same = c.in_ok-table.ensures.shapes ∙ c.loop-name.invariant.of_program.same };
}

pub returns-clause-answer : goal.returns-clause-answer
returns-clause-answer c = each_end (with_table (program_of c.args.program.now) c.args.path.now) field c.loop-name.state c.loop-name.name-iterator _ c.loop-name.invariant.so_far c.in-None.ensures.steps.0
