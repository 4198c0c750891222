use Rattle.std.proofs.Common.{◌-◌, ◌%◌, ◌/◌, ◌≤◌, sym, ◌∙◌, subst, arith, ◌<◌, ◌^◌}
use Rattle.std.specs.Prelude.{slice_index}
use Rattle.bit_values.proofs.BitsLemmas.{cast-lt}
use Rattle.bit_values.specs.Bits.{shr}
use Rattle.slot_packets.proofs.ByteLemmas.{cut_byte, part_is}
use Rattle.slot_packets.proofs.bytes.byte_part.Goals as goal

pub returns-clause-number : goal.returns-clause-number
returns-clause-number c =
    let le : c.args.width ≤ 8 = omega (arith, c.requires.one) in
    cut_byte (slice_index c.args.frame.now (c.args.at / 8)) (8 - c.args.at % 8 - c.args.width) c.args.width le
    ∙ sym (part_is c.args.frame.now c.args.at c.args.width c.requires.wide c.requires.one c.requires.within)

pub returns-clause-in_range : goal.returns-clause-in_range
returns-clause-in_range c =
    let le : c.args.width ≤ 8 = omega (arith, c.requires.one) in
    subst (λ n. n < 2 ^ c.args.width) (sym (cut_byte (slice_index c.args.frame.now (c.args.at / 8)) (8 - c.args.at % 8 - c.args.width) c.args.width le))
    (cast-lt c.args.width (shr (slice_index c.args.frame.now (c.args.at / 8)) (8 - c.args.at % 8 - c.args.width)))
