use Rattle.std.proofs.Common.{◌≡◌, ◌≤◌, ◌+◌, ◌-◌, ◌%◌, arith, ◌∙◌}
use Rattle.slot_packets.proofs.PartLemmas.{part_more}
use Rattle.slot_packets.proofs.writing.write_parts.Goals as goal

pub returns-then-width-open-clause-bits : goal.returns-then-width-open-clause-bits
returns-then-width-open-clause-bits c i lt =
    part_more c.args.buffer.now c.write_part.new.buffer c.args.at c.args.width c.args.at c.args.width 0 c.bits_from.result c.args.number (omega arith) (omega arith)
    c.write_part.ensures.others c.write_part.ensures.bits c.bits_from.ensures.value (λ k h. absurd (omega (arith, h))) i (omega (arith, lt))

pub loop-left-init : goal.loop-left-init
loop-left-init c =
    let first : 8 - c.args.at % 8 ≤ c.args.width = omega (arith, c.if-width-open.false) in
    record {
      end = omega (arith, first);
      whole = omega arith;
      fewer = omega arith;
      written = λ k lt.
          part_more c.args.buffer.now c.write_part-2.new.buffer c.args.at c.args.width c.args.at (8 - c.args.at % 8) (c.args.width - (8 - c.args.at % 8)) c.bits_from-2.result c.args.number (omega (arith, first)) (omega (arith, first))
          c.write_part-2.ensures.others c.write_part-2.ensures.bits c.bits_from-2.ensures.value (λ j h. absurd (omega (arith, h, first))) k lt;
      before = λ k lt. c.write_part-2.ensures.others.before k lt;
      behind = λ k le. c.write_part-2.ensures.others.behind k le;
    }

pub loop-left-preserved : goal.loop-left-preserved
loop-left-preserved c =
    let eight : c.loop-left.left - 8 + 8 ≡ c.loop-left.left = omega (arith, c.loop-left-test.true) in
    record {
      end = omega (arith, c.loop-left.invariant.end, eight);
      whole = omega (arith, c.loop-left.invariant.whole);
      fewer = omega (arith, c.loop-left.invariant.fewer);
      written = λ k lt.
          part_more c.loop-left.buffer c.write_part-in-loop-left.new.buffer c.args.at c.args.width c.loop-left.end 8 (c.loop-left.left - 8) c.bits_from-in-loop-left.result c.args.number (omega (arith, c.loop-left.invariant.end, eight)) (omega (arith, c.loop-left.invariant.fewer, eight))
          c.write_part-in-loop-left.ensures.others c.write_part-in-loop-left.ensures.bits c.bits_from-in-loop-left.ensures.value (λ j h. c.loop-left.invariant.written j (omega (arith, h, eight))) k lt;
      before = λ k lt. c.write_part-in-loop-left.ensures.others.before k (omega (arith, lt, c.loop-left.invariant.end, c.loop-left.invariant.fewer)) ∙ c.loop-left.invariant.before k lt;
      behind = λ k le. c.write_part-in-loop-left.ensures.others.behind k le ∙ c.loop-left.invariant.behind k (omega (arith, le));
    }

pub returns-then-left-gt0-clause-bits : goal.returns-then-left-gt0-clause-bits
returns-then-left-gt0-clause-bits c i lt =
    part_more c.loop-left.buffer c.write_part-then-left-gt0.new.buffer c.args.at c.args.width c.loop-left.end c.loop-left.left 0 c.bits_from-then-left-gt0.result c.args.number (omega (arith, c.loop-left.invariant.end)) (omega (arith, c.loop-left.invariant.fewer))
    c.write_part-then-left-gt0.ensures.others c.write_part-then-left-gt0.ensures.bits c.bits_from-then-left-gt0.ensures.value (λ j h. c.loop-left.invariant.written j (omega (arith, h))) i (omega (arith, lt))
