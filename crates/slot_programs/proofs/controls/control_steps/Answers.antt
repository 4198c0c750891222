use Rattle.std.proofs.Common.{◌≡◌, take, Some, None, ap, ◌∙◌, subst}
use Rattle.p4_tree.specs.View.{stmts_of}
use Rattle.p4_meaning.specs.DigestBound.{most_applied, most_named, most_of}
use Rattle.p4_parts.specs.PartsIn.{body_in}
use Rattle.slot_terms.specs.Places.{Places, places_of}
use Rattle.slot_statements.proofs.FlowLemmas.{grows_twice}
use Rattle.slot_controls.specs.Steps.{most_told_all, steps_of}
use Rattle.slot_controls.specs.StepRuns.{DoAllSteps}
use Rattle.slot_control_codes.specs.Known.{known_calls, steps_behind_all}
use Rattle.slot_passages.specs.Codes.{ControlCode}
use Rattle.slot_programs.proofs.KnownLemmas.{at_exit, control_known, control_stops, control_unknown}
use Rattle.slot_programs.proofs.ControlLemmas.{control_told, cut_is, steps_are}
use Rattle.slot_programs.proofs.controls.control_steps.Goals as goal

pub returns-clause-same : goal.returns-clause-same
returns-clause-same g c =
    let m = places_of c.args.places.now in
    let q = places_of c.stmts_steps-2.new.places in
    c.cut_back.ensures ∙ ap (λ k. (let p : Places = record { rows = take k q.rows; headers = q.headers; next = m.next; size = q.size } in p)) c.row_count-count.ensures
    ∙ cut_is m q (grows_twice m (places_of c.stmts_steps.new.places) q c.in_ok-settings.ensures.grows c.in_ok-body.ensures.grows)

pub returns-clause-known : goal.returns-clause-known
returns-clause-known g c =
    let k = g.K.CallSteps.callees c.args.k.now in
    let m = places_of c.args.places.now in
    let n = places_of c.stmts_steps.new.places in
    let q = places_of c.stmts_steps-2.new.places in
    control_known k m n q (body_in c.args.b.now)
    (subst (λ xs. steps_behind_all (known_calls k) (stmts_of xs) m ≡ Some n) c.deref.ensures.value c.in_ok-settings.ensures.known)
    (subst (λ xs. steps_behind_all (known_calls k) (stmts_of xs) n ≡ Some q) c.deref-2.ensures.value c.in_ok-body.ensures.known)

pub returns-clause-steps : goal.returns-clause-steps
returns-clause-steps g c =
    let k = g.K.CallSteps.callees c.args.k.now in
    let m = places_of c.args.places.now in
    let n = places_of c.stmts_steps.new.places in
    let q = places_of c.stmts_steps-2.new.places in
    let made : ControlCode = record { settings = steps_of c.in_ok-settings.settings.items; body = steps_of c.in_ok-body.body.items } in
    steps_are k m n q (body_in c.args.b.now) made c.in_ok-settings.ensures.grows c.in_ok-settings.ensures.widens
    (subst (λ xs. DoAllSteps k m n made.settings (stmts_of xs)) c.deref.ensures.value c.in_ok-settings.ensures.do_all)
    (subst (λ xs. DoAllSteps k n q made.body (stmts_of xs)) c.deref-2.ensures.value c.in_ok-body.ensures.do_all)

pub returns-clause-told : goal.returns-clause-told
returns-clause-told g c =
    let k = g.K.CallSteps.callees c.args.k.now in
    let made : ControlCode = record { settings = steps_of c.in_ok-settings.settings.items; body = steps_of c.in_ok-body.body.items } in
    control_told (most_named k.actions) (most_applied k.actions k.tables) made (body_in c.args.b.now)
    (subst (λ xs. most_told_all made.settings ≡ most_of (most_named k.actions) (most_applied k.actions k.tables) (stmts_of xs)) c.deref.ensures.value c.in_ok-settings.ensures.told)
    (subst (λ xs. most_told_all made.body ≡ most_of (most_named k.actions) (most_applied k.actions k.tables) (stmts_of xs)) c.deref-2.ensures.value c.in_ok-body.ensures.told)

pub returns-in_err-settings-clause-blames : goal.returns-in_err-settings-clause-blames
returns-in_err-settings-clause-blames g c =
    let k = g.K.CallSteps.callees c.args.k.now in
    let m = places_of c.args.places.now in
    at_exit _ c.from_residual.ensures (λ u. control_stops k m (body_in c.args.b.now) (subst (λ xs. steps_behind_all (known_calls k) (stmts_of xs) m ≡ None) c.deref.ensures.value (c.in_err-settings.ensures.blames u)))

pub returns-in_err-body-clause-blames : goal.returns-in_err-body-clause-blames
returns-in_err-body-clause-blames g c =
    let k = g.K.CallSteps.callees c.args.k.now in
    let m = places_of c.args.places.now in
    let n = places_of c.stmts_steps.new.places in
    at_exit _ c.from_residual-in_err-body.ensures
    (λ u. control_unknown k m n (body_in c.args.b.now)
    (subst (λ xs. steps_behind_all (known_calls k) (stmts_of xs) m ≡ Some n) c.deref.ensures.value c.in_ok-settings.ensures.known)
    (subst (λ xs. steps_behind_all (known_calls k) (stmts_of xs) n ≡ None) c.deref-2.ensures.value (c.in_err-body.ensures.blames u)))
