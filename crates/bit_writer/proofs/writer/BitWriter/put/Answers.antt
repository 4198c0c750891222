use Rattle.std.proofs.Common.{◌≡◌, ◌-◌, ◌++◌, ap, sym, ◌∙◌, arith, append-nil}
use Rattle.bit_values.specs.BitLists.{number_bits}
use Rattle.bit_values.specs.Bits.{Word}
use Rattle.bit_writer.specs.Written.{bits_in}
use Rattle.bit_writer.proofs.WriterLemmas.{bits_more}
use Rattle.bit_writer.proofs.writer.BitWriter.put.Goals as goal

pub returns : goal.returns
returns c =
    let none : c.args.width - c.loop-i.i ≡ 0 = omega arith in
    sym (append-nil (bits_in c.loop-i.self)) ∙ ap (λ n. bits_in c.loop-i.self ++ number_bits n c.args.value) (sym none) ∙ c.loop-i.invariant

pub loop-i-preserved : goal.loop-i-preserved
loop-i-preserved c =
    bits_more (bits_in c.push.new.self) (bits_in c.loop-i.self) (bits_in c.args.self.now ++ number_bits c.args.width c.args.value) c.args.value c.args.width c.loop-i.i c.bit_of.result.value (omega arith)
    (ap (λ (x : Word). x.value) c.bit_of.ensures.bit) c.in_ok-push.ensures c.loop-i.invariant
