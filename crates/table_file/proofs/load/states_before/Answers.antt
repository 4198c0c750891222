use Rattle.std.proofs.Common.{◌<◌, ◌≤◌, ◌∙◌, ◌++◌, ◌∷◌, [], length, List, sym, ap₂, subst, arith}
use Rattle.p4_tree.specs.View.{program_of}
use Rattle.p4_tables.specs.State.{Held}
use Rattle.table_file.specs.Entries.{States}
use Rattle.table_file.specs.Laws.{AreOf}
use Rattle.table_file.proofs.Steps.{one_more, all_taken, before_of}
use Rattle.table_file.proofs.load.states_before.Goals as goal

pub loop-switch-preserved : goal.loop-switch-preserved
loop-switch-preserved c =
    let count = c.count-switch-end.ensures.count in
    let test = c.loop-switch-test.true in
    let lt : c.loop-switch._switch < length c.args.network.now.names = omega (arith, count, test) in
    c.in_ok-push.ensures.items
    ∙ ap₂ (λ (sts : States) (st : List Held). sts ++ st ∷ []) c.loop-switch.invariant (c.in_ok-copy.ensures ∙ c.in_ok-first.ensures)
    ∙ sym (one_more (program_of c.args.program.now) c.args.network.now.names c.loop-switch._switch lt)

pub returns-clause-states : goal.returns-clause-states
returns-clause-states c =
    let count = c.count-switch-end.ensures.count in
    let test = c.loop-switch-test.false in
    let le : length c.args.network.now.names ≤ c.loop-switch._switch = omega (arith, count, test) in
    c.loop-switch.invariant ∙ all_taken (program_of c.args.program.now) c.args.network.now.names c.loop-switch._switch le

pub returns-clause-kept : goal.returns-clause-kept
returns-clause-kept c =
    let count = c.count-switch-end.ensures.count in
    let test = c.loop-switch-test.false in
    let le : length c.args.network.now.names ≤ c.loop-switch._switch = omega (arith, count, test) in
    let p = program_of c.args.program.now in
    let is = c.loop-switch.invariant ∙ all_taken p c.args.network.now.names c.loop-switch._switch le in
    subst (AreOf p c.args.network.now.names) (sym is) (before_of p c.args.network.now.names)
