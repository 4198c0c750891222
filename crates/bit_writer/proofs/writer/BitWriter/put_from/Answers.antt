use Rattle.std.proofs.Common.{◌++◌, ap, sym, ◌∙◌, append_assoc, ◌-◌}
use Rattle.bit_values.specs.BitLists.{number_bits}
use Rattle.bit_values.specs.Bytes.{bits_of}
use Rattle.bit_writer.specs.Written.{bits_in}
use Rattle.bit_writer.proofs.WriterLemmas.{rest_of_byte}
use Rattle.bit_writer.proofs.writer.BitWriter.put_from.Goals as goal

pub returns : goal.returns
returns c =
    c.in_ok-put_bytes.ensures
    ∙ ap (λ l. l ++ bits_of c.args.bytes.now) c.in_ok-put.ensures
    ∙ append_assoc (bits_in c.args.self.now) (number_bits (8 - c.args.skip) c.args.byte) (bits_of c.args.bytes.now)
    ∙ ap (λ l. bits_in c.args.self.now ++ l) (sym (rest_of_byte c.args.skip c.args.byte (bits_of c.args.bytes.now) c.requires))
