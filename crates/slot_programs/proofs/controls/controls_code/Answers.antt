use Rattle.std.proofs.Common.{◌≡◌, [], ◌&&◌, map, true, false, sym, ◌∙◌, subst}
use Rattle.p4_parts.specs.PartsIn.{cells_decl, parts_in}
use Rattle.slot_terms.specs.Places.{places_of}
use Rattle.slot_places.specs.ProgramPlaces.{AreProgramPlaces}
use Rattle.slot_passages.specs.Codes.{control_of}
use Rattle.slot_programs.specs.Known.{has_control, is_silent}
use Rattle.slot_programs.specs.Sight.{bare_callees, program_callees}
use Rattle.p4_meaning.specs.Parts.{whole}
use Rattle.slot_programs.specs.CodesOf.{IsChecksumOf, IsControlOf}
use Rattle.slot_programs.proofs.KnownLemmas.{at_exit, controls_known, no_compute, no_egress, no_ingress, no_verify}
use Rattle.slot_programs.proofs.ControlLemmas.{controls_are}
use Rattle.slot_programs.proofs.controls.controls_code.Goals as goal

pub control_code-requires : goal.control_code-requires
control_code-requires c = subst (AreProgramPlaces (parts_in c.args.p.now.parts.now)) (sym c.in_ok-verify.ensures.same) c.requires

pub control_code-requires-2 : goal.control_code-requires-2
control_code-requires-2 c = subst (AreProgramPlaces (parts_in c.args.p.now.parts.now)) (sym (c.in_ok-ingress.ensures.same ∙ c.in_ok-verify.ensures.same)) c.requires

pub compute_code-requires : goal.compute_code-requires
compute_code-requires c = subst (AreProgramPlaces (parts_in c.args.p.now.parts.now)) (sym (c.in_ok-egress.ensures.same ∙ c.in_ok-ingress.ensures.same ∙ c.in_ok-verify.ensures.same)) c.requires

pub returns-clause-same : goal.returns-clause-same
returns-clause-same c = c.in_ok-compute.ensures.same ∙ c.in_ok-egress.ensures.same ∙ c.in_ok-ingress.ensures.same ∙ c.in_ok-verify.ensures.same

pub returns-clause-known : goal.returns-clause-known
returns-clause-known c =
    let p = parts_in c.args.p.now.parts.now in
    let m = places_of c.args.places.now in
    let first : places_of c.checksum_code.new.places ≡ m = c.in_ok-verify.ensures.same in
    let second : places_of c.control_code.new.places ≡ m = c.in_ok-ingress.ensures.same ∙ first in
    let third : places_of c.control_code-2.new.places ≡ m = c.in_ok-egress.ensures.same ∙ second in
    controls_known p m
    (subst (λ rs. has_control (bare_callees p (map cells_decl rs)) m p.verify ≡ true) c.deref.ensures.value c.in_ok-verify.ensures.known)
    (subst (λ q. has_control (program_callees p) q (whole p.ingress) ≡ true) first c.in_ok-ingress.ensures.known)
    (subst (λ q. has_control (program_callees p) q (whole p.egress) ≡ true) second c.in_ok-egress.ensures.known)
    (subst (λ q. (has_control (bare_callees p []) q p.compute && is_silent p.compute) ≡ true) third c.in_ok-compute.ensures.known)

pub returns-clause-codes : goal.returns-clause-codes
returns-clause-codes c =
    let p = parts_in c.args.p.now.parts.now in
    let m = places_of c.args.places.now in
    let first : places_of c.checksum_code.new.places ≡ m = c.in_ok-verify.ensures.same in
    let second : places_of c.control_code.new.places ≡ m = c.in_ok-ingress.ensures.same ∙ first in
    let third : places_of c.control_code-2.new.places ≡ m = c.in_ok-egress.ensures.same ∙ second in
    controls_are p m (control_of c.in_ok-verify.verify) (control_of c.in_ok-ingress.ingress) (control_of c.in_ok-egress.egress) (control_of c.in_ok-compute.compute)
    (subst (λ rs. IsChecksumOf p (map cells_decl rs) m p.verify (control_of c.in_ok-verify.verify)) c.deref.ensures.value c.in_ok-verify.ensures.control)
    (subst (λ q. IsControlOf p q p.ingress (control_of c.in_ok-ingress.ingress)) first c.in_ok-ingress.ensures.control)
    (subst (λ q. IsControlOf p q p.egress (control_of c.in_ok-egress.egress)) second c.in_ok-egress.ensures.control)
    (subst (λ q. IsChecksumOf p [] q p.compute (control_of c.in_ok-compute.compute)) third c.in_ok-compute.ensures.control)
    c.in_ok-verify.ensures.told c.in_ok-ingress.ensures.told c.in_ok-egress.ensures.told c.in_ok-compute.ensures.silent

pub returns-in_err-verify-clause-blames : goal.returns-in_err-verify-clause-blames
returns-in_err-verify-clause-blames c =
    let p = parts_in c.args.p.now.parts.now in
    let m = places_of c.args.places.now in
    at_exit _ c.from_residual.ensures (λ u. no_verify p m (subst (λ rs. has_control (bare_callees p (map cells_decl rs)) m p.verify ≡ false) c.deref.ensures.value (c.in_err-verify.ensures.blames u)))

pub returns-in_err-ingress-clause-blames : goal.returns-in_err-ingress-clause-blames
returns-in_err-ingress-clause-blames c =
    let p = parts_in c.args.p.now.parts.now in
    at_exit _ c.from_residual-in_err-ingress.ensures (λ u. no_ingress p (places_of c.args.places.now) (subst (λ q. has_control (program_callees p) q (whole p.ingress) ≡ false) c.in_ok-verify.ensures.same (c.in_err-ingress.ensures.blames u)))

pub returns-in_err-egress-clause-blames : goal.returns-in_err-egress-clause-blames
returns-in_err-egress-clause-blames c =
    let p = parts_in c.args.p.now.parts.now in
    at_exit _ c.from_residual-in_err-egress.ensures (λ u. no_egress p (places_of c.args.places.now) (subst (λ q. has_control (program_callees p) q (whole p.egress) ≡ false) (c.in_ok-ingress.ensures.same ∙ c.in_ok-verify.ensures.same) (c.in_err-egress.ensures.blames u)))

pub returns-in_err-compute-clause-blames : goal.returns-in_err-compute-clause-blames
returns-in_err-compute-clause-blames c =
    let p = parts_in c.args.p.now.parts.now in
    at_exit _ c.from_residual-in_err-compute.ensures
    (λ u. no_compute p (places_of c.args.places.now)
    (subst (λ q. (has_control (bare_callees p []) q p.compute && is_silent p.compute) ≡ false) (c.in_ok-egress.ensures.same ∙ c.in_ok-ingress.ensures.same ∙ c.in_ok-verify.ensures.same) (c.in_err-compute.ensures.blames u)))
