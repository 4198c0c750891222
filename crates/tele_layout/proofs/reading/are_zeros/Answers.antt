use Rattle.std.proofs.Common.{◌≡◌, ◌+◌, ◌-◌, ◌&&◌, take, drop, sym, ap, ◌∙◌}
use Rattle.bit_values.specs.Bits.{Word}
use Rattle.bit_values.specs.Bytes.{bits_of}
use Rattle.tele_layout.specs.Reading.{all_zero}
use Rattle.tele_layout.proofs.WritingLemmas.{is_zero}
use Rattle.tele_layout.proofs.ReadingLemmas.{next_zero}
use Rattle.tele_layout.proofs.reading.are_zeros.Goals as goal

pub loop-i-preserved : goal.loop-i-preserved
loop-i-preserved c =
    let rest = take (c.args.count - (c.loop-i.i + 1)) (drop (c.args.at + (c.loop-i.i + 1)) (bits_of c.args.buf.now)) in
    let zero_bit : c.take_bits.result.value ≡ 0 = sym (ap (λ (w : Word). w.value) c.take_bits-in-loop-i.view_is) ∙ c.if-take_bits-ne0.false in
    ap (λ b. b && all_zero rest) (sym (is_zero c.take_bits.result.value zero_bit))
    ∙ sym (next_zero (bits_of c.args.buf.now) c.args.at c.args.count c.loop-i.i c.take_bits.result.value c.loop-i-test.true c.take_bits.ensures.in_range c.take_bits.ensures.left)
    ∙ c.loop-i.invariant
