use Rattle.std.proofs.lemmas.Result.{err_from_is_err_and}
use Rattle.json_parts.specs.Views.{field}
use Rattle.json_parts.proofs.TurnLemmas.{each_more, each_stop, each_end}
use Rattle.p4_tree.specs.View.{program_of}
use Rattle.table_file.specs.Entries.{with_switch}
use Rattle.table_file.proofs.load.each_switch.Goals as goal

pub returns-in_err-switch-clause-answer : goal.returns-in_err-switch-clause-answer
returns-in_err-switch-clause-answer c =
    let p = err_from_is_err_and c.from_residual.result c.from_residual.ensures.1 in
    rw (p.1, p.2) (λ other. each_stop (with_switch (program_of c.args.program.now) c.args.network.now.names) field c.loop-name.states.items c.loop-name.name-iterator _ c.loop-name.invariant.so_far (c.in-Some.name.now, c.in-Some.value.now) _ _ c.in-Some.ensures.steps (rw c.as_str.ensures.value at (c.in_err-switch.ensures.answer other)))

pub loop-name-preserved : goal.loop-name-preserved
loop-name-preserved c = record {
  can = tt;
  finite = tt;
  so_far = each_more (with_switch (program_of c.args.program.now) c.args.network.now.names) field c.loop-name.states.items c.loop-name.name-iterator _ c.loop-name.invariant.so_far (c.in-Some.name.now, c.in-Some.value.now) _ _ c.in-Some.ensures.steps (rw c.as_str.ensures.value at c.in_ok-switch.ensures.answer);
  kept = c.in_ok-switch.ensures.kept;
}

pub returns-clause-answer : goal.returns-clause-answer
returns-clause-answer c = each_end (with_switch (program_of c.args.program.now) c.args.network.now.names) field c.loop-name.states.items c.loop-name.name-iterator _ c.loop-name.invariant.so_far c.in-None.ensures.steps.0
