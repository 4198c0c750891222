use Rattle.std.proofs.Common.{◌≡◌, ◌<◌, ◌+◌, ◌-◌, ◌^◌, ℕ, ◌++◌, bit_and, sym, ap, ◌∙◌, subst, arith}
use Rattle.bit_values.specs.Bits.{cast, shr}
use Rattle.bit_values.specs.BitLists.{number_bits}
use Rattle.bit_values.proofs.BitsLemmas.{cast-lt}
use Rattle.slot_terms.proofs.MaskedLemmas.{masked}
use Rattle.slot_controls.specs.Sums.{sum_behind}
use Rattle.slot_controls.proofs.BitSumLemmas.{word_less}
use Rattle.slot_controls.proofs.sums.with_number.Goals as goal

pub with_bits-sum-requires-clause-low : goal.with_bits-sum-requires-clause-low
with_bits-sum-requires-clause-low c =
    let n : ℕ = shr c.args.value (c.loop-left.left - c.lesser-count.result) in
    subst (λ v. v < 2 ^ c.lesser-count.result) (sym (masked c.lesser-count.result n c.mask.result c.mask.ensures (omega (arith, c.lesser-count.ensures.right)))) (cast-lt c.lesser-count.result n)

pub loop-left-preserved : goal.loop-left-preserved
loop-left-preserved c =
    let k : ℕ = c.lesser-count.result in
    let left : ℕ = c.loop-left.left - k in
    let n : ℕ = shr c.args.value left in
    let cut : bit_and n c.mask.result ≡ cast k n = masked k n c.mask.result c.mask.ensures (omega (arith, c.lesser-count.ensures.right)) in
    let all : k + left ≡ c.loop-left.left = omega (arith, c.lesser-count.ensures.left) in
    record {
      few = omega (arith, c.loop-left.invariant.few);
      sum = λ more.
          c.with_bits-sum.ensures (number_bits left c.args.value ++ more)
          ∙ ap (λ v. sum_behind c.loop-left.sum.whole c.loop-left.sum.part c.loop-left.sum.count (number_bits k v ++ (number_bits left c.args.value ++ more))) cut
          ∙ ap (sum_behind c.loop-left.sum.whole c.loop-left.sum.part c.loop-left.sum.count) (word_less k left c.args.value more)
          ∙ ap (λ w. sum_behind c.loop-left.sum.whole c.loop-left.sum.part c.loop-left.sum.count (number_bits w c.args.value ++ more)) all
          ∙ c.loop-left.invariant.sum more;
    }

pub returns : goal.returns
returns c more =
    let none : 0 ≡ c.loop-left.left = omega (arith, c.loop-left-test.false) in
    ap (λ w. sum_behind c.loop-left.sum.whole c.loop-left.sum.part c.loop-left.sum.count (number_bits w c.args.value ++ more)) none ∙ c.loop-left.invariant.sum more
