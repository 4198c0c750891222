use Rattle.std.proofs.Common.{length, drop, arith, ap, ◌∙◌}
use Rattle.slot_controls.specs.Steps.{slot_run}
use Rattle.bit_values.specs.Bytes.{bits_of}
use Rattle.p4_slots.proofs.SlotLemmas.{left_alike, has_room, going_is}
use Rattle.p4_slots.proofs.halves.go_out.Goals as goal

pub leave-out-requires-clause-room : goal.leave-out-requires-clause-room
leave-out-requires-clause-room c = has_room c.args.plan.now c.args.w.now c.args.s.now c.args.x.now c.requires.plan c.requires.ready

pub leave-out-requires-clause-digests : goal.leave-out-requires-clause-digests
leave-out-requires-clause-digests c = omega (arith, c.requires.ready.digests, c.requires.plan.fits.digests, c.args.x.now.digests.ok.0, ap (λ (l : _). length l) c.requires.ready.none)

pub leave-out-requires-clause-within : goal.leave-out-requires-clause-within
leave-out-requires-clause-within c = omega (arith, c.requires.plan.fits.frame, c.requires.short, c.requires.bytes)

pub leave-out-requires-clause-short : goal.leave-out-requires-clause-short
leave-out-requires-clause-short c = omega (arith, c.requires.plan.fits.short, c.requires.bytes)

pub put_out-requires-clause-fits : goal.put_out-requires-clause-fits
put_out-requires-clause-fits c = omega (arith, c.requires.bytes, c.requires.fits)

pub returns-clause-leaves : goal.returns-clause-leaves
returns-clause-leaves c =
    left_alike c.tables_choose.ensures c.args.plan.now c.requires.plan c.args.tables.now c.requires.tables c.actions_are_listed.ensures c.args.w.now c.args.s.now c.args.x.now c.requires.ready
    c.exits_agree.ensures c.requires.stored (drop c.args.skip (bits_of c.args.rest.now)) _ (going_is c.leave-out.result (slot_run c.leave-out.new.s c.leave-out.new.x) c.leave-out.new.buffer _ c.put_out.ensures.out ∙ c.leave-out.ensures.leaves)
