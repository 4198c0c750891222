use Rattle.std.proofs.Common.{◌≡◌, ◌+◌, ◌∙◌, ap, arith}
use Rattle.slot_controls.specs.Sums.{sum_behind}
use Rattle.slot_controls.proofs.BitSumLemmas.{bits_more}
use Rattle.slot_controls.proofs.sums.with_bits.Goals as goal

pub returns-then-total-lt16 : goal.returns-then-total-lt16
returns-then-total-lt16 c more =
    c.open_sum.ensures more ∙ ap (λ n. sum_behind c.args.sum.whole n (c.args.sum.count + c.args.count) more) c.joined-part.ensures.value
    ∙ bits_more c.args.sum.whole c.args.sum.part c.args.sum.count c.args.count c.args.value more c.requires.low

pub returns-else-total-lt16 : goal.returns-else-total-lt16
returns-else-total-lt16 c more =
    let all : 16 ≡ c.args.sum.count + c.args.count = omega (arith, c.if-total-lt16.false, c.requires.few) in
    c.whole_sum.ensures more ∙ ap (λ n. sum_behind c.args.sum.whole c.joined-part.result n more) all
    ∙ ap (λ n. sum_behind c.args.sum.whole n (c.args.sum.count + c.args.count) more) c.joined-part.ensures.value
    ∙ bits_more c.args.sum.whole c.args.sum.part c.args.sum.count c.args.count c.args.value more c.requires.low
