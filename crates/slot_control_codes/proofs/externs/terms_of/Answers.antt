use Rattle.std.proofs.Common.{◌++◌, ◌∷◌, [], map, take, sym, subst}
use Rattle.p4_tree.specs.View.{expr_of}
use Rattle.slot_terms.specs.Typed.{typed_of}
use Rattle.slot_terms.specs.Places.{places_of}
use Rattle.slot_statements.proofs.TreeLemmas.{one_more}
use Rattle.slot_controls.specs.StepRuns.{MeanAll}
use Rattle.slot_control_codes.specs.Known.{are_known}
use Rattle.slot_control_codes.proofs.CallLemmas.{value_known_more, terms_more}
use Rattle.slot_control_codes.proofs.externs.terms_of.Goals as goal

pub loop-e-preserved : goal.loop-e-preserved
loop-e-preserved c = record {
  known = value_known_more (places_of c.args.places.now) (are_known (places_of c.args.places.now) (map expr_of c.args.list.now)) c.args.list.now c.loop-e.e-index c.e-item.result c.loop-e-test.true c.e-item.is c.in_ok-t.ensures.known c.loop-e.invariant.known;
  mean =
      subst (λ es. MeanAll (places_of c.args.places.now) es (map typed_of c.push_term.new.terms.items)) (sym (one_more expr_of c.args.list.now c.loop-e.e-index c.e-item.result c.loop-e-test.true c.e-item.is))
      (subst (λ ts. MeanAll (places_of c.args.places.now) (map expr_of (take c.loop-e.e-index c.args.list.now) ++ expr_of c.e-item.result ∷ []) ts) (sym c.in_ok-push_term.ensures)
      (terms_more (places_of c.args.places.now) (map expr_of (take c.loop-e.e-index c.args.list.now)) (map typed_of c.loop-e.terms.items) (expr_of c.e-item.result) (typed_of c.in_ok-t.t) c.loop-e.invariant.mean
      c.in_ok-t.ensures.means));
}
