use Rattle.std.proofs.Common.{refl, sym, subst}
use Rattle.p4_parts.specs.PartsIn.{parts_in}
use Rattle.slot_terms.specs.Places.{places_of}
use Rattle.slot_places.specs.ProgramPlaces.{ArePlaced, AreProgramPlaces}
use Rattle.slot_passages.specs.Codes.{program_of}
use Rattle.slot_programs.specs.Room.{room_of}
use Rattle.slot_programs.specs.CodesOf.{IsCodeAt}
use Rattle.slot_programs.proofs.KnownLemmas.{at_exit, code_known, code_unknown, parts_unknown}
use Rattle.slot_programs.proofs.ControlLemmas.{code_is}
use Rattle.slot_programs.proofs.program.program_code.Goals as goal

pub returns-clause-placed : goal.returns-clause-placed
returns-clause-placed c =
    let p = parts_in c.args.p.now in
    subst (ArePlaced p (room_of p)) (sym c.in_ok-code.ensures.same) (subst (λ r. ArePlaced p r (places_of c.in_ok-places.places)) c.in_ok-room.ensures c.in_ok-places.ensures.placed)

pub returns-clause-program : goal.returns-clause-program
returns-clause-program c = subst (AreProgramPlaces (parts_in c.args.p.now)) (sym c.in_ok-code.ensures.same) c.in_ok-places.ensures.program

pub returns-clause-code : goal.returns-clause-code
returns-clause-code c =
    let p = parts_in c.args.p.now in
    let m = places_of c.code_at.new.places in
    code_is p (room_of p) m (program_of c.in_ok-code.code)
    (subst (ArePlaced p (room_of p)) (sym c.in_ok-code.ensures.same) (subst (λ r. ArePlaced p r (places_of c.in_ok-places.places)) c.in_ok-room.ensures c.in_ok-places.ensures.placed))
    (subst (λ q. IsCodeAt p q (program_of c.in_ok-code.code)) (sym c.in_ok-code.ensures.same) c.in_ok-code.ensures.code)

pub returns-clause-room : goal.returns-clause-room
returns-clause-room c = record {
  states = refl;
  verify = c.program_keys-keys.ensures.verify;
  ingress = c.program_keys-keys.ensures.ingress;
  egress = c.program_keys-keys.ensures.egress;
  compute = c.program_keys-keys.ensures.compute;
  silent = c.in_ok-code.ensures.code.controls.silent;
}

pub returns-clause-enter_told : goal.returns-clause-enter_told
returns-clause-enter_told c = c.in_ok-code.ensures.code.controls.enter_told

pub returns-clause-leave_told : goal.returns-clause-leave_told
returns-clause-leave_told c = c.in_ok-code.ensures.code.controls.leave_told

pub returns-clause-known : goal.returns-clause-known
returns-clause-known c =
    let p = parts_in c.args.p.now in
    code_known p (places_of c.in_ok-places.places) (subst (λ r. ArePlaced p r (places_of c.in_ok-places.places)) c.in_ok-room.ensures c.in_ok-places.ensures.placed) c.in_ok-code.ensures.known

pub returns-in_err-places-clause-blames : goal.returns-in_err-places-clause-blames
returns-in_err-places-clause-blames c = at_exit _ c.from_residual-in_err-places.ensures (λ u. parts_unknown (parts_in c.args.p.now) c.in_ok-room.room _ c.in_ok-room.ensures u c.in_err-places.ensures.blames)

pub returns-in_err-code-clause-blames : goal.returns-in_err-code-clause-blames
returns-in_err-code-clause-blames c =
    let p = parts_in c.args.p.now in
    at_exit _ c.from_residual-in_err-code.ensures
    (λ u. code_unknown p (places_of c.in_ok-places.places) (subst (λ r. ArePlaced p r (places_of c.in_ok-places.places)) c.in_ok-room.ensures c.in_ok-places.ensures.placed) (c.in_err-code.ensures.blames u))
