use Rattle.std.proofs.Common.{map, sym, ap, subst, ◌∙◌}
use Rattle.p4_tree.specs.Tree.{call}
use Rattle.p4_tree.specs.View.{arg_of, expr_of, stmt_of}
use Rattle.p4_parts.specs.PartsIn.{parts_in}
use Rattle.slot_terms.specs.Places.{places_of}
use Rattle.slot_statements.proofs.TreeLemmas.{stmt_of-Assign, stmt_of-Call}
use Rattle.slot_parsers.specs.Code.{step_of}
use Rattle.slot_parsers.specs.Parses.{DoesStep, heads_of}
use Rattle.slot_parsers.specs.Extracts.{call_of}
use Rattle.slot_parsers.proofs.MakingLemmas.{call_does}
use Rattle.slot_parser_codes.proofs.LoopLemmas.{step_assigns}
use Rattle.slot_parser_codes.proofs.making.step_code.Goals as goal

pub returns-in-Assign-clause-does : goal.returns-in-Assign-clause-does
returns-in-Assign-clause-does c =
    step_assigns (places_of c.args.places.now) (heads_of (parts_in c.args.p.now)) (parts_in c.args.p.now).headers c.assign_step.result c.in-Assign.field-0 c.in-Assign.path.items (expr_of c.in-Assign.e) (stmt_of c.args.st.now)
    (ap stmt_of c.in-Assign.is ∙ stmt_of-Assign c.in-Assign.field-0 c.in-Assign.path c.in-Assign.e) (rw c.deref.ensures.value at c.assign_step.ensures.does)

pub returns-in_ok-call_step-in-Call-clause-does : goal.returns-in_ok-call_step-in-Call-clause-does
returns-in_ok-call_step-in-Call-clause-does c =
    let m = places_of c.args.places.now in
    let p = parts_in c.args.p.now in
    let args = map arg_of c.in-Call.args.items in
    subst (λ x. DoesStep m (heads_of p) p.headers (step_of c.in_ok-call_step-in-Call.field-0) x) (sym (ap stmt_of c.in-Call.is ∙ stmt_of-Call c.in-Call.field-0 c.in-Call.field-1 c.in-Call.args))
    (subst (λ k. DoesStep m (heads_of p) p.headers k (call c.in-Call.field-0 c.in-Call.field-1.items args)) (sym (c.in_ok-call_step-in-Call.ensures ∙ ap (λ l. call_of m (map arg_of l)) c.deref-in-Call.ensures.value))
    (call_does p m c.requires c.in-Call.field-0 c.in-Call.field-1.items args))
