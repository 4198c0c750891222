use Rattle.std.proofs.Common.{length, arith, ap}
use Rattle.p4_slots.proofs.SlotLemmas.{entered_alike, has_room}
use Rattle.p4_slots.proofs.halves.go_in.Goals as goal

pub enter-requires-clause-room : goal.enter-requires-clause-room
enter-requires-clause-room c = has_room c.args.plan.now c.args.w.now c.args.s.now c.args.x.now c.requires.plan c.requires.ready

pub enter-requires-clause-digests : goal.enter-requires-clause-digests
enter-requires-clause-digests c = omega (arith, c.requires.ready.digests, c.requires.plan.fits.digests, c.args.x.now.digests.ok.0, ap (λ (l : _). length l) c.requires.ready.none)

pub returns-clause-enters : goal.returns-clause-enters
returns-clause-enters c =
    entered_alike c.tables_choose.ensures c.args.plan.now c.requires.plan c.args.tables.now c.requires.tables c.actions_are_listed.ensures c.args.w.now c.args.s.now c.args.x.now c.requires.ready
    c.entries_agree.ensures c.args.port c.args.frame.now _ c.enter.ensures.enters
