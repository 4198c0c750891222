use Rattle.std.proofs.Common.{◌≡◌, suc, ◌+◌, ◌-◌, sym, ap, ◌∙◌, arith}
use Rattle.slot_packets.specs.Validity.{zero_slots}
use Rattle.slot_packets.proofs.validity.zero_slots.Goals as goal

pub loop-i-preserved : goal.loop-i-preserved
loop-i-preserved c =
    let one : c.args.count - c.loop-i.i ≡ suc (c.args.count - (c.loop-i.i + 1)) = omega (arith, c.loop-i-test.true) in
    let place : c.args.first + (c.loop-i.i + 1) ≡ c.args.first + c.loop-i.i + 1 = omega arith in
    ap (λ k. zero_slots k (c.args.count - (c.loop-i.i + 1)) c.put_number.new.slots) place
    ∙ ap (zero_slots (c.args.first + c.loop-i.i + 1) (c.args.count - (c.loop-i.i + 1))) c.put_number.ensures
    ∙ sym (ap (λ k. zero_slots (c.args.first + c.loop-i.i) k c.loop-i.slots) one)
    ∙ c.loop-i.invariant
