use Rattle.std.proofs.Common.{◌≡◌, ◌+◌, ◌-◌, ◌*◌, ◌%◌, ◌^◌, ◌<◌, ◌≤◌, length, ap, sym, ◌∙◌, subst, arith}
use Rattle.bit_values.specs.Bytes.{number_at}
use Rattle.slot_terms.proofs.MaskedLemmas.{powers}
use Rattle.slot_packets.proofs.ByteLemmas.{number_at-lt, more_at}
use Rattle.slot_packets.proofs.bytes.take_number.Goals as goal

pub with_bits-value-requires-clause-high : goal.with_bits-value-requires-clause-high
with_bits-value-requires-clause-high c =
    let le : 8 - c.args.at % 8 + 8 * c.loop-i.i ≤ 120 = omega (arith, c.loop-i-test.true, c.requires.narrow, c.if-width-open.false) in
    omega (arith, c.loop-i.invariant.value, number_at-lt c.args.frame.now c.args.at (8 - c.args.at % 8 + 8 * c.loop-i.i), powers (8 - c.args.at % 8 + 8 * c.loop-i.i) 120 le)

pub loop-i-preserved : goal.loop-i-preserved
loop-i-preserved c =
    let step : 8 - c.args.at % 8 + 8 * c.loop-i.i + 8 ≡ 8 - c.args.at % 8 + 8 * (c.loop-i.i + 1) = omega arith in
    let within : c.args.at + (8 - c.args.at % 8 + 8 * c.loop-i.i + 8) ≤ 8 * length c.args.frame.now = omega (arith, c.loop-i-test.true, c.requires.within, c.if-width-open.false) in
    record {
      value =
          c.with_bits-value.ensures
          ∙ more_at c.args.frame.now c.args.at (8 - c.args.at % 8 + 8 * c.loop-i.i) 8 c.loop-i.end c.loop-i.value c.byte_part-in-loop-i.result within c.loop-i.invariant.end c.loop-i.invariant.value c.byte_part-in-loop-i.ensures.number
          ∙ ap (number_at c.args.frame.now c.args.at) step;
      end = omega (arith, c.loop-i.invariant.end);
    }

pub with_bits-value-requires-then-last-gt0-clause-high : goal.with_bits-value-requires-then-last-gt0-clause-high
with_bits-value-requires-then-last-gt0-clause-high c =
    let le : 8 - c.args.at % 8 + 8 * c.loop-i.i ≤ 128 - (c.args.width - (8 - c.args.at % 8)) % 8 = omega (arith, c.loop-i.auto.i-end, c.requires.narrow, c.if-width-open.false) in
    let small : c.loop-i.value < 2 ^ (8 - c.args.at % 8 + 8 * c.loop-i.i) = subst (λ v. v < 2 ^ (8 - c.args.at % 8 + 8 * c.loop-i.i)) (sym c.loop-i.invariant.value) (number_at-lt c.args.frame.now c.args.at (8 - c.args.at % 8 + 8 * c.loop-i.i)) in
    omega (arith, small, powers (8 - c.args.at % 8 + 8 * c.loop-i.i) (128 - (c.args.width - (8 - c.args.at % 8)) % 8) le)

pub returns-then-last-gt0 : goal.returns-then-last-gt0
returns-then-last-gt0 c =
    let all : 8 - c.args.at % 8 + 8 * c.loop-i.i + (c.args.width - (8 - c.args.at % 8)) % 8 ≡ c.args.width = omega (arith, c.loop-i-test.false, c.loop-i.auto.i-end, c.if-width-open.false) in
    let within : c.args.at + (8 - c.args.at % 8 + 8 * c.loop-i.i + (c.args.width - (8 - c.args.at % 8)) % 8) ≤ 8 * length c.args.frame.now = omega (arith, all, c.requires.within) in
    c.with_bits-value-then-last-gt0.ensures
    ∙ more_at c.args.frame.now c.args.at (8 - c.args.at % 8 + 8 * c.loop-i.i) ((c.args.width - (8 - c.args.at % 8)) % 8) c.loop-i.end c.loop-i.value c.byte_part-then-last-gt0.result within c.loop-i.invariant.end c.loop-i.invariant.value c.byte_part-then-last-gt0.ensures.number
    ∙ ap (number_at c.args.frame.now c.args.at) all
