use Rattle.std.proofs.Common.{sym, subst, ap, ◌∙◌, ◌+◌, ◌++◌, ◌∷◌, [], map, take}
use Rattle.p4_tree.specs.Tree.{block, stmts_from}
use Rattle.p4_tree.specs.View.{arg_of, expr_of, stmt_of, stmts_of, else_of}
use Rattle.slot_terms.specs.Typed.{typed_of}
use Rattle.slot_terms.specs.Places.{places_of}
use Rattle.slot_statements.specs.Codes.{branch, code_of, codes_from, codes_of}
use Rattle.slot_statements.specs.Runs.{Does, DoesElse, DoAll}
use Rattle.slot_statements.proofs.FlowLemmas.{block_does, branch_does, else_does, choice_does, grows_twice, all_more}
use Rattle.slot_statements.specs.Known.{places_behind_all}
use Rattle.slot_statements.proofs.KnownLemmas.{known_more}
use Rattle.slot_statements.proofs.TreeLemmas.{stmt_of-Block, stmt_of-Var, stmt_of-Assign, stmt_of-If, stmt_of-Call, one_more, all_of}
use Rattle.slot_statements.proofs.statements.+statements.Goals as goal

pub stmt_code-returns-in_ok-c-in-Block-clause-does : goal.stmt_code-returns-in_ok-c-in-Block-clause-does
stmt_code-returns-in_ok-c-in-Block-clause-does t c =
    subst (λ n. Does (places_of c.args.places.now) n (code_of c.in_ok-c-in-Block.c) (stmt_of c.args.s.now)) (sym c.in_ok-c-in-Block.ensures.same)
    (subst (λ x. Does (places_of c.args.places.now) (places_of c.args.places.now) (code_of c.in_ok-c-in-Block.c) x) (sym (ap stmt_of c.in-Block.is ∙ stmt_of-Block c.in-Block.field-0 c.in-Block.body))
    (rw c.deref.ensures.value at c.in_ok-c-in-Block.ensures.does))

pub stmt_code-returns-in_ok-c-in-Var-clause-does : goal.stmt_code-returns-in_ok-c-in-Var-clause-does
stmt_code-returns-in_ok-c-in-Var-clause-does t c =
    subst (λ x. Does (places_of c.args.places.now) (places_of c.variable_code.new.places) (code_of c.in_ok-c-in-Var.c) x) (sym (ap stmt_of c.in-Var.is ∙ stmt_of-Var c.in-Var.field-0 c.in-Var.ty c.in-Var.name c.in-Var.start))
    c.in_ok-c-in-Var.ensures.does

pub stmt_code-returns-in_ok-c-in-Assign-clause-does : goal.stmt_code-returns-in_ok-c-in-Assign-clause-does
stmt_code-returns-in_ok-c-in-Assign-clause-does t c =
    subst (λ x. Does (places_of c.args.places.now) (places_of c.args.places.now) (code_of c.in_ok-c-in-Assign.c) x) (sym (ap stmt_of c.in-Assign.is ∙ stmt_of-Assign c.in-Assign.field-0 c.in-Assign.path c.in-Assign.e))
    (rw c.deref-in-Assign.ensures.value at c.in_ok-c-in-Assign.ensures.does)

pub stmt_code-returns-in_ok-branch_code-in-If-clause-does : goal.stmt_code-returns-in_ok-branch_code-in-If-clause-does
stmt_code-returns-in_ok-branch_code-in-If-clause-does t c =
    subst (λ n. Does (places_of c.args.places.now) n (code_of c.in_ok-branch_code-in-If.field-0) (stmt_of c.args.s.now)) (sym (c.in_ok-b-in-If.ensures.same ∙ c.in_ok-a-in-If.ensures.same))
    (subst (λ k. Does (places_of c.args.places.now) (places_of c.args.places.now) k (stmt_of c.args.s.now)) (sym c.in_ok-branch_code-in-If.ensures)
    (subst (λ x. Does (places_of c.args.places.now) (places_of c.args.places.now) (branch (typed_of c.in_ok-t-in-If.t).term (code_of c.in_ok-a-in-If.a) (code_of c.in_ok-b-in-If.b)) x) (sym (ap stmt_of c.in-If.is ∙ stmt_of-If c.in-If.field-0 c.in-If.e c.in-If.a c.in-If.b))
    (choice_does (places_of c.args.places.now) c.in-If.field-0 (expr_of c.in-If.e) (typed_of c.in_ok-t-in-If.t) (code_of c.in_ok-a-in-If.a) (code_of c.in_ok-b-in-If.b) (stmt_of c.in-If.a.value) (else_of c.in-If.b)
    c.in_ok-plain_test-in-If.ensures.plain c.in_ok-t-in-If.ensures.means (rw c.deref-in-If.ensures at c.in_ok-a-in-If.ensures.does)
    (subst (λ m. DoesElse m (code_of c.in_ok-b-in-If.b) (else_of c.in-If.b)) c.in_ok-a-in-If.ensures.same c.in_ok-b-in-If.ensures.does))))

pub stmt_code-returns-in_ok-c-in-Call-clause-does : goal.stmt_code-returns-in_ok-c-in-Call-clause-does
stmt_code-returns-in_ok-c-in-Call-clause-does t c =
    subst (λ x. Does (places_of c.args.places.now) (places_of c.args.places.now) (code_of c.in_ok-c-in-Call.c) x) (sym (ap stmt_of c.in-Call.is ∙ stmt_of-Call c.in-Call.field-0 c.in-Call.callee c.in-Call.field-2))
    ((rw c.deref-in-Call.ensures.value at c.in_ok-c-in-Call.ensures.does) (map arg_of c.in-Call.field-2.items))

pub in_block-returns-clause-does : goal.in_block-returns-clause-does
in_block-returns-clause-does t c =
    subst (λ k. Does (places_of c.args.places.now) (places_of c.args.places.now) k (block 0 (stmts_of c.args.body.now))) (sym c.group_code.ensures)
    (block_does (places_of c.args.places.now) (places_of c.stmts_code.new.places) 0 (codes_of c.in_ok-codes.codes.items) (stmts_of c.args.body.now) c.in_ok-codes.ensures.do_all)

pub in_branch-returns-clause-does : goal.in_branch-returns-clause-does
in_branch-returns-clause-does t c = branch_does (places_of c.args.places.now) (places_of c.stmt_code.new.places) (code_of c.in_ok-c.c) (stmt_of c.args.s.now) c.in_ok-c.ensures.does

pub in_else-returns-in_ok-c-in-Some-clause-does : goal.in_else-returns-in_ok-c-in-Some-clause-does
in_else-returns-in_ok-c-in-Some-clause-does t c =
    subst (λ o. DoesElse (places_of c.args.places.now) (code_of c.in_ok-c-in-Some.c) (else_of o)) (sym c.in-Some.is)
    (else_does (places_of c.args.places.now) (code_of c.in_ok-c-in-Some.c) (stmt_of c.in-Some.s.value) (rw c.deref.ensures at c.in_ok-c-in-Some.ensures.does))

pub stmts_code-loop-s-preserved : goal.stmts_code-loop-s-preserved
stmts_code-loop-s-preserved t c = record {
  laid = c.in_ok-c.ensures.laid;
  grows = grows_twice (places_of c.args.places.now) (places_of c.loop-s.places) (places_of c.stmt_code.new.places) c.loop-s.invariant.grows c.in_ok-c.ensures.grows;
  known = known_more (places_of c.loop-s.places) (places_of c.stmt_code.new.places) (places_behind_all (stmts_of c.args.list.now) (places_of c.args.places.now)) c.args.list.now c.loop-s.s-index c.s-item.result c.loop-s-test.true c.s-item.is c.in_ok-c.ensures.known c.loop-s.invariant.known;
  do_all =
      subst (λ k. DoAll (places_of c.args.places.now) (places_of c.stmt_code.new.places) (codes_from k) (stmts_of (take (c.loop-s.s-index + 1) c.args.list.now))) (sym c.in_ok-push_code.ensures)
      (subst (λ x. DoAll (places_of c.args.places.now) (places_of c.stmt_code.new.places) (codes_from (map code_of c.loop-s.codes.items ++ code_of c.in_ok-c.c ∷ [])) (stmts_from x)) (sym (one_more stmt_of c.args.list.now c.loop-s.s-index c.s-item.result c.loop-s-test.true c.s-item.is))
      (all_more (places_of c.args.places.now) (places_of c.loop-s.places) (places_of c.stmt_code.new.places) (map code_of c.loop-s.codes.items) (map stmt_of (take c.loop-s.s-index c.args.list.now)) (code_of c.in_ok-c.c) (stmt_of c.s-item.result)
      c.loop-s.invariant.grows c.loop-s.invariant.do_all c.in_ok-c.ensures.does));
}

pub stmts_code-returns-clause-do_all : goal.stmts_code-returns-clause-do_all
stmts_code-returns-clause-do_all t c =
    subst (λ x. DoAll (places_of c.args.places.now) (places_of c.loop-s.places) (codes_of c.loop-s.codes.items) (stmts_from x)) (all_of stmt_of c.args.list.now c.loop-s.s-index c.loop-s-test.false)
    c.loop-s.invariant.do_all
