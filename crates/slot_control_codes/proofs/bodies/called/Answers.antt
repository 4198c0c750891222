use Rattle.std.proofs.Common.{◌≡◌, None, map, sym, ap, ◌∙◌, subst}
use Rattle.p4_tree.specs.View.{expr_of, stmts_of}
use Rattle.p4_parts.specs.PartsIn.{action_in, param_in}
use Rattle.slot_terms.specs.Terms.{term_of}
use Rattle.slot_terms.specs.Places.{places_of, IsLaid}
use Rattle.slot_statements.specs.Parameters.{slots_from, with_params}
use Rattle.slot_statements.specs.Runs.{Grows}
use Rattle.slot_statements.specs.Known.{are_known_args}
use Rattle.slot_statements.proofs.KnownLemmas.{not_second}
use Rattle.slot_statements.proofs.FlowLemmas.{grows_twice}
use Rattle.slot_statements.proofs.CallLemmas.{params_laid, params_grow, cut_to}
use Rattle.slot_controls.specs.Steps.{calls, steps_of}
use Rattle.slot_controls.specs.StepRuns.{DoAllSteps}
use Rattle.slot_control_codes.specs.Callees.{bare_of, callees_of}
use Rattle.slot_control_codes.specs.Known.{has_body, known_calls, steps_behind_all}
use Rattle.slot_control_codes.proofs.BodyLemmas.{at_exit, body_is, body_unknown}
use Rattle.slot_control_codes.proofs.bodies.called.Goals as goal

pub stmts_steps-requires : goal.stmts_steps-requires
stmts_steps-requires c =
    subst IsLaid (sym c.in_ok-parameters.ensures.places)
    (params_laid (places_of c.args.places.now) (map param_in c.deref-2.result.now) c.requires c.in_ok-parameters.ensures.free)

pub returns-clause-same : goal.returns-clause-same
returns-clause-same c =
    cut_to (places_of c.args.places.now) (places_of c.stmts_steps.new.places) (places_of c.cut_back.new.places) c.row_count-count.result c.row_count-count.ensures
    (grows_twice (places_of c.args.places.now) (places_of c.parameters.new.places) (places_of c.stmts_steps.new.places)
    (subst (λ n. Grows (places_of c.args.places.now) n) (sym c.in_ok-parameters.ensures.places) (params_grow (places_of c.args.places.now) (map param_in c.deref-2.result.now)))
    c.in_ok-body.ensures.grows)
    c.cut_back.ensures

pub returns-clause-is : goal.returns-clause-is
returns-clause-is c =
    let m = places_of c.args.places.now in
    let places : places_of c.parameters.new.places ≡ with_params m (map param_in c.args.a.now.params.items) = rw c.deref-2.ensures.value at c.in_ok-parameters.ensures.places in
    let slots : c.parameters.new.slots.items ≡ slots_from m.next (map param_in c.args.a.now.params.items) = rw (c.deref-2.ensures.value, c.new-slots.ensures.items) at c.in_ok-parameters.ensures.slots in
    record {
      args = map term_of c.in_ok-terms.terms.items;
      body = steps_of c.in_ok-body.body.items;
      is = c.call_node.ensures ∙ ap (λ is. calls is (map term_of c.in_ok-terms.terms.items) (steps_of c.in_ok-body.body.items)) slots;
      fills = rw c.deref.ensures.value at c.in_ok-terms.ensures.fill;
      does =
          body_is (callees_of c.args.k.now) (bare_of c.bare-bare.result) m (places_of c.parameters.new.places) (places_of c.stmts_steps.new.places) (action_in c.args.a.now) (steps_of c.in_ok-body.body.items) c.bare-bare.ensures places c.requires
          (rw c.deref-2.ensures.value at c.in_ok-parameters.ensures.free)
          (subst (λ xs. DoAllSteps (bare_of c.bare-bare.result) (places_of c.parameters.new.places) (places_of c.stmts_steps.new.places) (steps_of c.in_ok-body.body.items) (stmts_of xs)) c.deref-3.ensures.value c.in_ok-body.ensures.do_all);
    }

pub returns-in_err-body-clause-blames : goal.returns-in_err-body-clause-blames
returns-in_err-body-clause-blames c =
    let k = callees_of c.args.k.now in
    let m = places_of c.args.places.now in
    let n = places_of c.parameters.new.places in
    let places : n ≡ with_params m (map param_in c.args.a.now.params.items) = rw c.deref-2.ensures.value at c.in_ok-parameters.ensures.places in
    at_exit _ c.from_residual-in_err-body.ensures
    (λ u. not_second (are_known_args m (action_in c.args.a.now).params (map expr_of c.args.args.now)) (has_body k.headers (action_in c.args.a.now) m)
    (body_unknown k (bare_of c.bare-bare.result) m n (action_in c.args.a.now) c.bare-bare.ensures places
    (subst (λ xs. steps_behind_all (known_calls (bare_of c.bare-bare.result)) (stmts_of xs) n ≡ None) c.deref-3.ensures.value (c.in_err-body.ensures.blames u))))
