use Rattle.std.proofs.Common.{◌^◌, ◌<◌, sym, subst}
use Rattle.bit_values.specs.Bits.{shr}
use Rattle.bit_values.proofs.BitsLemmas.{cast-lt}
use Rattle.slot_packets.proofs.ByteLemmas.{cut_byte}
use Rattle.slot_packets.proofs.writing.bits_from.Goals as goal

pub returns-clause-value : goal.returns-clause-value
returns-clause-value c = cut_byte c.args.number c.args.low c.args.width c.requires.narrow

pub returns-clause-in_range : goal.returns-clause-in_range
returns-clause-in_range c = subst (λ n. n < 2 ^ c.args.width) (sym (cut_byte c.args.number c.args.low c.args.width c.requires.narrow)) (cast-lt c.args.width (shr c.args.number c.args.low))
