use Rattle.std.proofs.Common.{◌≡◌, ◌+◌, ◌++◌, ◌<◌, ◌^◌, ap, ◌∙◌, arith, sym}
use Rattle.bit_values.specs.Bits.{concat}
use Rattle.bit_values.specs.BitLists.{number_bits}
use Rattle.bit_values.proofs.BitListsLemmas.{number_bits-concat}
use Rattle.bit_writer.specs.Pieces.{part_bits}
use Rattle.bit_writer.proofs.writing.joined.Goals as goal

pub returns-in-Some-clause-bits : goal.returns-in-Some-clause-bits
returns-in-Some-clause-bits c =
    let one : c.args.bit.width ≡ 1 = c.requires.one in
    let small : c.args.bit.value < 2 ^ 1 = omega (arith, c.requires.small) in
    ap (λ w. number_bits w.width w.value) c.concat.ensures
    ∙ ap (λ n. number_bits (c.in-Some.part.width + n) (concat c.in-Some.part.value n c.args.bit.value)) one
    ∙ number_bits-concat c.in-Some.part.width 1 c.in-Some.part.value c.args.bit.value small
    ∙ ap (λ p. part_bits p ++ number_bits 1 c.args.bit.value) (sym c.in-Some.is)
