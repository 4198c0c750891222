use Rattle.std.proofs.Common.{◌≡◌, ◌++◌, [], ap, sym, refl, ◌∙◌, arith}
use Rattle.bit_values.specs.BitLists.{number_bits}
use Rattle.bit_values.specs.Bytes.{bits_of}
use Rattle.bit_writer.specs.Bytes.{bytes_of}
use Rattle.bit_writer.specs.Pieces.{part_bits}
use Rattle.bit_writer.proofs.WriterLemmas.{bytes_of-more, bits_of-more}
use Rattle.bit_writer.proofs.writer.BitWriter.push.Goals as goal

pub invariant_of-self-then-width-eq8-clause-whole : goal.invariant_of-self-then-width-eq8-clause-whole
invariant_of-self-then-width-eq8-clause-whole c =
    ap (λ l. bytes_of (bits_of l)) c.in_ok-push.ensures.items
    ∙ bytes_of-more c.args.self.now.bytes.items c.byte_of.result c.byte_of.ensures.small c.args.self.now.whole
    ∙ sym c.in_ok-push.ensures.items

pub returns-in_ok-push : goal.returns-in_ok-push
returns-in_ok-push c =
    let eight : c.joined-part.result.width ≡ 8 = omega arith in
    let is : number_bits 8 c.byte_of.result ≡ part_bits c.args.self.now.part ++ number_bits 1 c.args.bit.value =
    ap (number_bits 8) c.byte_of.ensures.value ∙ ap (λ n. number_bits n c.joined-part.result.value) (sym eight) ∙ c.joined-part.ensures.bits in
    ap (λ l. bits_of l ++ []) c.in_ok-push.ensures.items
    ∙ bits_of-more c.args.self.now.bytes.items (part_bits c.args.self.now.part) (number_bits 1 c.args.bit.value) c.byte_of.result 8 refl is
