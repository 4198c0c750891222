use Rattle.std.proofs.Common.{ap, ◌∙◌, drop, ◌%◌}
use Rattle.bit_values.specs.Bytes.{bits_of}
use Rattle.p4_passages.proofs.HalvesLemmas.{rest_bits}
use Rattle.p4_passages.proofs.waiting.rest_from.Goals as goal

pub returns : goal.returns
returns c = ap (λ l. drop (c.args.at % 8) (bits_of l)) (c.in_ok-bytes.ensures ∙ c.from_byte.ensures) ∙ rest_bits c.args.frame.now c.args.at
