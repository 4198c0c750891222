use Rattle.std.proofs.Common.{◌≡◌, ◌+◌, ◌++◌, ◌∷◌, [], map, take, drop, Some, sym, subst, ap, ◌∙◌}
use Rattle.p4_tree.specs.Tree.{block}
use Rattle.p4_tree.specs.View.{expr_of, stmt_of, else_of, stmts_of}
use Rattle.p4_tree.specs.Tree.{stmts_from}
use Rattle.p4_meaning.specs.DigestBound.{most_applied, most_named, most_of, most_of_else, most_of_stmt, most_of_test}
use Rattle.p4_meaning.specs.Statements.{application}
use Rattle.slot_terms.specs.Places.{places_of}
use Rattle.slot_statements.proofs.FlowLemmas.{grows_twice}
use Rattle.slot_statements.proofs.TreeLemmas.{stmt_of-Block, stmt_of-If, one_more, all_of, stmt_of-Call}
use Rattle.slot_controls.specs.Steps.{step_of, steps_of, steps_from, most_told, most_told_all}
use Rattle.slot_controls.specs.StepRuns.{DoesStep, DoesStepElse, DoAllSteps}
use Rattle.slot_control_codes.specs.Known.{known_calls, steps_behind, steps_behind_all}
use Rattle.slot_control_codes.specs.Found.{test_branch, test_in}
use Rattle.slot_controls.proofs.VariableLemmas.{widens_twice}
use Rattle.slot_controls.proofs.FlowLemmas.{block_does, branch_does, else_does, all_more}
use Rattle.slot_control_codes.proofs.ToldLemmas.{test_more, told_more}
use Rattle.slot_control_codes.proofs.TreeLemmas.{choice_known, known_more}
use Rattle.slot_control_codes.proofs.MadeLemmas.{test_does}
use Rattle.slot_control_codes.proofs.statements.+steps.Goals as goal

pub stmt_step-returns-in_ok-c-in-Block-clause-does : goal.stmt_step-returns-in_ok-c-in-Block-clause-does
stmt_step-returns-in_ok-c-in-Block-clause-does g t c =
    subst (λ n. DoesStep (g.K.CallSteps.callees c.args.k.now) (places_of c.args.places.now) n (step_of c.in_ok-c-in-Block.c) (stmt_of c.args.s.now)) (sym c.in_ok-c-in-Block.ensures.same)
    (subst (λ x. DoesStep (g.K.CallSteps.callees c.args.k.now) (places_of c.args.places.now) (places_of c.args.places.now) (step_of c.in_ok-c-in-Block.c) x) (sym (ap stmt_of c.in-Block.is ∙ stmt_of-Block c.in-Block.field-0 c.in-Block.body))
    (rw c.deref.ensures.value at c.in_ok-c-in-Block.ensures.does))

pub stmt_step-returns-in_ok-test_step-in-If-clause-known : goal.stmt_step-returns-in_ok-test_step-in-If-clause-known
stmt_step-returns-in_ok-test_step-in-If-clause-known g t c =
    let k = known_calls (g.K.CallSteps.callees c.args.k.now) in
    let m = places_of c.args.places.now in
    let x = c.in-If in
    subst (λ s. steps_behind k s m ≡ Some (places_of c.in_else.new.places)) (sym (ap stmt_of x.is ∙ stmt_of-If x.field-0 x.e x.a x.b))
    (choice_known k x.field-0 (expr_of x.e) (stmt_of x.a.value) (else_of x.b) m (places_of c.test_of.new.places) (places_of c.in_branch.new.places) (places_of c.in_else.new.places)
    c.in_ok-t-in-If.ensures.known c.in_ok-t-in-If.ensures.same (rw c.deref-in-If.ensures at c.in_ok-a-in-If.ensures.known) c.in_ok-a-in-If.ensures.same c.in_ok-b-in-If.ensures.known c.in_ok-b-in-If.ensures.same)

pub stmt_step-returns-in_ok-test_step-in-If-clause-does : goal.stmt_step-returns-in_ok-test_step-in-If-clause-does
stmt_step-returns-in_ok-test_step-in-If-clause-does g t c =
    let k = g.K.CallSteps.callees c.args.k.now in
    let m = places_of c.args.places.now in
    let x = c.in-If in
    let a = step_of c.in_ok-a-in-If.a in
    let b = step_of c.in_ok-b-in-If.b in
    subst (λ n. DoesStep k m n (step_of c.in_ok-test_step-in-If.field-0) (stmt_of c.args.s.now)) (sym (c.in_ok-b-in-If.ensures.same ∙ c.in_ok-a-in-If.ensures.same ∙ c.in_ok-t-in-If.ensures.same))
    (subst (λ z. DoesStep k m m z (stmt_of c.args.s.now)) (sym c.in_ok-test_step-in-If.ensures)
    (subst (λ s. DoesStep k m m (test_branch (test_in c.in_ok-t-in-If.t) a b) s) (sym (ap stmt_of x.is ∙ stmt_of-If x.field-0 x.e x.a x.b))
    (test_does k m x.field-0 (test_in c.in_ok-t-in-If.t) (expr_of x.e) a b (stmt_of x.a.value) (else_of x.b) c.in_ok-t-in-If.ensures.is
    (subst (λ n. DoesStep k n n a (stmt_of x.a.value)) c.in_ok-t-in-If.ensures.same (rw c.deref-in-If.ensures at c.in_ok-a-in-If.ensures.does))
    (subst (λ n. DoesStepElse k n b (else_of x.b)) (c.in_ok-a-in-If.ensures.same ∙ c.in_ok-t-in-If.ensures.same) c.in_ok-b-in-If.ensures.does))))

pub stmt_step-returns-in_ok-test_step-in-If-clause-told : goal.stmt_step-returns-in_ok-test_step-in-If-clause-told
stmt_step-returns-in_ok-test_step-in-If-clause-told g t c =
    let k = g.K.CallSteps.callees c.args.k.now in
    let x = c.in-If in
    let action = most_named k.actions in
    let table = most_applied k.actions k.tables in
    ap most_told c.in_ok-test_step-in-If.ensures
    ∙ test_more (test_in c.in_ok-t-in-If.t) (step_of c.in_ok-a-in-If.a) (step_of c.in_ok-b-in-If.b) (most_of_test action table (application (expr_of x.e))) (most_of_stmt action table (stmt_of x.a.value)) (most_of_else action table (else_of x.b))
    c.in_ok-t-in-If.ensures.told (rw c.deref-in-If.ensures at c.in_ok-a-in-If.ensures.told) c.in_ok-b-in-If.ensures.told
    ∙ sym (ap (most_of_stmt action table) (ap stmt_of x.is ∙ stmt_of-If x.field-0 x.e x.a x.b))

pub in_block-returns-clause-does : goal.in_block-returns-clause-does
in_block-returns-clause-does g t c =
    subst (λ k. DoesStep (g.K.CallSteps.callees c.args.k.now) (places_of c.args.places.now) (places_of c.args.places.now) k (block 0 (stmts_of c.args.body.now))) (sym c.group_step.ensures)
    (block_does (g.K.CallSteps.callees c.args.k.now) (places_of c.args.places.now) (places_of c.stmts_steps.new.places) 0 (steps_of c.in_ok-steps.steps.items) (stmts_of c.args.body.now) c.in_ok-steps.ensures.do_all)

pub in_branch-returns-clause-does : goal.in_branch-returns-clause-does
in_branch-returns-clause-does g t c = branch_does (g.K.CallSteps.callees c.args.k.now) (places_of c.args.places.now) (places_of c.stmt_step.new.places) (step_of c.in_ok-c.c) (stmt_of c.args.s.now) c.in_ok-c.ensures.does

pub in_else-returns-in_ok-c-in-Some-clause-does : goal.in_else-returns-in_ok-c-in-Some-clause-does
in_else-returns-in_ok-c-in-Some-clause-does g t c =
    subst (λ o. DoesStepElse (g.K.CallSteps.callees c.args.k.now) (places_of c.args.places.now) (step_of c.in_ok-c-in-Some.c) (else_of o)) (sym c.in-Some.is)
    (else_does (g.K.CallSteps.callees c.args.k.now) (places_of c.args.places.now) (step_of c.in_ok-c-in-Some.c) (stmt_of c.in-Some.s.value) (rw c.deref.ensures at c.in_ok-c-in-Some.ensures.does))

pub stmts_steps-loop-s-preserved : goal.stmts_steps-loop-s-preserved
stmts_steps-loop-s-preserved g t c = record {
  laid = c.in_ok-c.ensures.laid;
  grows = grows_twice (places_of c.args.places.now) (places_of c.loop-s.places) (places_of c.stmt_step.new.places) c.loop-s.invariant.grows c.in_ok-c.ensures.grows;
  widens = widens_twice (places_of c.args.places.now) (places_of c.loop-s.places) (places_of c.stmt_step.new.places) c.loop-s.invariant.widens c.in_ok-c.ensures.widens;
  known = known_more (known_calls (g.K.CallSteps.callees c.args.k.now)) (places_of c.loop-s.places) (places_of c.stmt_step.new.places) (steps_behind_all (known_calls (g.K.CallSteps.callees c.args.k.now)) (stmts_of c.args.list.now) (places_of c.args.places.now)) c.args.list.now c.loop-s.s-index c.s-item.result c.loop-s-test.true c.s-item.is c.in_ok-c.ensures.known c.loop-s.invariant.known;
  told =
      subst (λ q. most_told_all (steps_from q) + most_of (most_named (g.K.CallSteps.callees c.args.k.now).actions) (most_applied (g.K.CallSteps.callees c.args.k.now).actions (g.K.CallSteps.callees c.args.k.now).tables) (stmts_of (drop (c.loop-s.s-index + 1) c.args.list.now)) ≡ most_of (most_named (g.K.CallSteps.callees c.args.k.now).actions) (most_applied (g.K.CallSteps.callees c.args.k.now).actions (g.K.CallSteps.callees c.args.k.now).tables) (stmts_of c.args.list.now)) (sym c.in_ok-push_step.ensures)
      (told_more (most_named (g.K.CallSteps.callees c.args.k.now).actions) (most_applied (g.K.CallSteps.callees c.args.k.now).actions (g.K.CallSteps.callees c.args.k.now).tables) (most_of (most_named (g.K.CallSteps.callees c.args.k.now).actions) (most_applied (g.K.CallSteps.callees c.args.k.now).actions (g.K.CallSteps.callees c.args.k.now).tables) (stmts_of c.args.list.now)) c.args.list.now c.loop-s.s-index c.s-item.result (map step_of c.loop-s.steps.items) (step_of c.in_ok-c.c) c.loop-s-test.true c.s-item.is c.in_ok-c.ensures.told c.loop-s.invariant.told);
  do_all =
      subst (λ q. DoAllSteps (g.K.CallSteps.callees c.args.k.now) (places_of c.args.places.now) (places_of c.stmt_step.new.places) (steps_from q) (stmts_of (take (c.loop-s.s-index + 1) c.args.list.now))) (sym c.in_ok-push_step.ensures)
      (subst (λ x. DoAllSteps (g.K.CallSteps.callees c.args.k.now) (places_of c.args.places.now) (places_of c.stmt_step.new.places) (steps_from (map step_of c.loop-s.steps.items ++ step_of c.in_ok-c.c ∷ [])) (stmts_from x)) (sym (one_more stmt_of c.args.list.now c.loop-s.s-index c.s-item.result c.loop-s-test.true c.s-item.is))
      (all_more (g.K.CallSteps.callees c.args.k.now) (places_of c.args.places.now) (places_of c.loop-s.places) (places_of c.stmt_step.new.places) (map step_of c.loop-s.steps.items) (map stmt_of (take c.loop-s.s-index c.args.list.now)) (step_of c.in_ok-c.c) (stmt_of c.s-item.result)
      c.loop-s.invariant.grows c.loop-s.invariant.widens c.loop-s.invariant.do_all c.in_ok-c.ensures.does));
}

pub stmts_steps-returns-clause-do_all : goal.stmts_steps-returns-clause-do_all
stmts_steps-returns-clause-do_all g t c =
    subst (λ x. DoAllSteps (g.K.CallSteps.callees c.args.k.now) (places_of c.args.places.now) (places_of c.loop-s.places) (steps_of c.loop-s.steps.items) (stmts_from x)) (all_of stmt_of c.args.list.now c.loop-s.s-index c.loop-s-test.false)
    c.loop-s.invariant.do_all

pub stmt_step-returns-in_ok-c-in-Call-clause-does : goal.stmt_step-returns-in_ok-c-in-Call-clause-does
stmt_step-returns-in_ok-c-in-Call-clause-does g t c =
    subst (λ n. DoesStep (g.K.CallSteps.callees c.args.k.now) (places_of c.args.places.now) n (step_of c.in_ok-c-in-Call.c) (stmt_of c.args.s.now)) (sym c.in_ok-c-in-Call.ensures.same)
    (subst (λ x. DoesStep (g.K.CallSteps.callees c.args.k.now) (places_of c.args.places.now) (places_of c.args.places.now) (step_of c.in_ok-c-in-Call.c) x) (sym (ap stmt_of c.in-Call.is ∙ stmt_of-Call c.in-Call.field-0 c.in-Call.callee c.in-Call.args))
    (rw (c.deref-in-Call.ensures.value, c.deref-in-Call-2.ensures.value) at (rw c.act_of.ensures at c.in_ok-c-in-Call.ensures.does)))
