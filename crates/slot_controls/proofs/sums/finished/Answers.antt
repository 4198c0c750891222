use Rattle.std.proofs.Common.{◌≡◌, ◌<◌, ◌+◌, ◌-◌, ◌*◌, ◌^◌, sym, ap, ◌∙◌, subst, arith}
use Rattle.p4_meaning.specs.Checksum.{ones_sum}
use Rattle.slot_controls.specs.Sums.{checksum_behind}
use Rattle.slot_controls.proofs.BitSumLemmas.{few_left, byte_left}
use Rattle.slot_controls.proofs.sums.finished.Goals as goal

pub returns-then-sum-lt8 : goal.returns-then-sum-lt8
returns-then-sum-lt8 c = sym (few_left c.args.sum.whole c.args.sum.part c.args.sum.count c.if-sum-lt8.true)

pub returns-else-sum-lt8 : goal.returns-else-sum-lt8
returns-else-sum-lt8 c =
    let count : c.args.sum.count ≡ 8 + (c.args.sum.count - 8) = omega (arith, c.if-sum-lt8.false) in
    let lt : c.args.sum.count - 8 < 8 = omega (arith, c.args.sum.few) in
    ap (λ n. 65535 - n) (c.ones_sum.ensures ∙ ap (λ b. ones_sum c.args.sum.whole (256 * b)) c.first_byte.ensures.value)
    ∙ sym (ap (checksum_behind c.args.sum.whole c.args.sum.part) count ∙ byte_left c.args.sum.whole c.args.sum.part (c.args.sum.count - 8) lt (subst (λ n. c.args.sum.part < 2 ^ n) count c.args.sum.low))
