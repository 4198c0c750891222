use Rattle.std.proofs.Common.{◌≡◌, Some, length, map, refl, sym, ap, ◌∙◌, subst}
use Rattle.std.proofs.lemmas.Option.{slice_get-map, slice_get_read}
use Rattle.std.specs.Option.{option_map}
use Rattle.std.specs.Prelude.{slice_get}
use Rattle.p4_meaning.specs.Statements as meaning
use Rattle.slot_terms.specs.Places.{header_number, path_of, places_of}
use Rattle.slot_controls.specs.Steps.{slots_of}
use Rattle.slot_controls.specs.StepRuns.{DoesAct}
use Rattle.slot_controls.proofs.ActLemmas.{makes_does}
use Rattle.slot_control_codes.proofs.acts.validity_step.Goals as goal

pub returns-in-Some-get-clause-does : goal.returns-in-Some-get-clause-does
returns-in-Some-get-clause-does g c =
    let all = c.headers-all.result.now in
    let there : slice_get all c.in-Some.number ≡ Some c.in-Some-get.slots.now = slice_get_read all (length all) c.in-Some.number c.in-Some-get.slots.now refl c.in-Some-get.ensures.lookup.3.0 c.in-Some-get.ensures.lookup.1 in
    let number : header_number (places_of c.args.places.now).headers c.args.header.now ≡ Some c.in-Some.number = ap (λ hs. header_number (map path_of hs) c.args.header.now) (sym c.deref.ensures.value) ∙ c.in_ok-header_number.ensures ∙ c.in-Some.is in
    subst (λ z. DoesAct (g.K.CallSteps.callees c.args.k.now) (places_of c.args.places.now) z (meaning.makes c.args.header.now c.args.valid)) (sym c.make_step.ensures)
    (makes_does (g.K.CallSteps.callees c.args.k.now) (places_of c.args.places.now) c.args.header.now c.in-Some.number (slots_of c.in-Some-get.slots.now) c.args.valid c.requires number
    (subst (λ hs. slice_get hs c.in-Some.number ≡ Some (slots_of c.in-Some-get.slots.now)) c.headers-all.ensures (slice_get-map slots_of all c.in-Some.number ∙ ap (option_map slots_of) there)))
