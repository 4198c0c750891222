use Rattle.std.proofs.Common.{◌≡◌, ◌+◌, ◌<◌, ◌++◌, ◌∷◌, [], length, map, take, sym, subst, arith}
use Rattle.p4_tree.specs.View.{expr_of}
use Rattle.p4_parts.specs.PartsIn.{param_in}
use Rattle.slot_terms.specs.Terms.{term_of}
use Rattle.slot_terms.specs.Typed.{typed_of}
use Rattle.slot_terms.specs.Places.{places_of, Fills}
use Rattle.bit_values.specs.Widths.{sound_width}
use Rattle.p4_parts.specs.declared.parts.Taken.{Taken}
use Rattle.slot_statements.specs.Parameters.{FillAll}
use Rattle.slot_statements.specs.Known.{are_known_args}
use Rattle.slot_statements.proofs.KnownLemmas.{known_arg_more, other_count}
use Rattle.slot_statements.proofs.TreeLemmas.{one_more, all_of}
use Rattle.slot_statements.proofs.CallLemmas.{fill_more, fills_typed}
use Rattle.slot_statements.proofs.calls.arguments.Goals as goal

pub returns-clause-fill : goal.returns-clause-fill
returns-clause-fill c =
    subst (λ ps. FillAll (places_of c.args.places.now) ps (map expr_of c.args.args.now) (map term_of c.loop-i.terms.items)) (all_of param_in c.args.params.now c.loop-i.i c.loop-i-test.false)
    (subst (λ es. FillAll (places_of c.args.places.now) (map param_in (take c.loop-i.i c.args.params.now)) es (map term_of c.loop-i.terms.items)) (all_of expr_of c.args.args.now c.loop-i.i (omega (arith, c.if-params-args.false, c.loop-i-test.false)))
    c.loop-i.invariant.fill)

pub loop-i-preserved : goal.loop-i-preserved
loop-i-preserved c =
    let lt : c.loop-i.i < length c.args.args.now = omega (arith, c.if-params-args.false, c.loop-i-test.true) in
    record {
      known = known_arg_more (places_of c.args.places.now) (are_known_args (places_of c.args.places.now) (map param_in c.args.params.now) (map expr_of c.args.args.now)) c.args.params.now c.args.args.now c.loop-i.i c.index-params-i.result c.index-args-i.result c.loop-i-test.true lt c.index-params-i.is c.index-args-i.is c.in_ok-t.ensures.known c.loop-i.invariant.known;
      fill =
          subst (λ ps. FillAll (places_of c.args.places.now) ps (map expr_of (take (c.loop-i.i + 1) c.args.args.now)) (map term_of c.push_term.new.terms.items)) (sym (one_more param_in c.args.params.now c.loop-i.i c.index-params-i.result c.loop-i-test.true c.index-params-i.is))
          (subst (λ es. FillAll (places_of c.args.places.now) (map param_in (take c.loop-i.i c.args.params.now) ++ param_in c.index-params-i.result ∷ []) es (map term_of c.push_term.new.terms.items)) (sym (one_more expr_of c.args.args.now c.loop-i.i c.index-args-i.result lt c.index-args-i.is))
          (subst (λ ts. FillAll (places_of c.args.places.now) (map param_in (take c.loop-i.i c.args.params.now) ++ param_in c.index-params-i.result ∷ []) (map expr_of (take c.loop-i.i c.args.args.now) ++ expr_of c.index-args-i.result ∷ []) ts) (sym c.in_ok-push_term.ensures)
          (fill_more (places_of c.args.places.now) (map param_in (take c.loop-i.i c.args.params.now)) (map expr_of (take c.loop-i.i c.args.args.now)) (map term_of c.loop-i.terms.items) (param_in c.index-params-i.result) (expr_of c.index-args-i.result) (typed_of c.in_ok-t.t).term
          c.loop-i.invariant.fill (fills_typed (places_of c.args.places.now) (expr_of c.index-args-i.result) c.index-params-i.result.width (typed_of c.in_ok-t.t) (subst (λ (q : Taken). (typed_of c.in_ok-t.t).width ≡ sound_width q.width) (sym c.index-params-i.is) c.in_ok-t.ensures.width) (subst (λ (q : Taken). Fills (places_of c.args.places.now) (expr_of c.index-args-i.result) q.width (typed_of c.in_ok-t.t)) (sym c.index-params-i.is) c.in_ok-t.ensures.means)))));
    }

pub returns-then-params-args-clause-blames : goal.returns-then-params-args-clause-blames
returns-then-params-args-clause-blames c is = other_count (places_of c.args.places.now) c.args.params.now c.args.args.now c.if-params-args.true
