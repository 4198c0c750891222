use Rattle.std.proofs.Common.{◌≤◌, length, arith}
use Rattle.bit_writer.specs.Pieces.{part_bits}
use Rattle.bit_writer.proofs.WriterLemmas.{bytes_of-part, part_length}
use Rattle.bit_writer.proofs.writer.BitWriter.finish.Goals as goal

pub returns : goal.returns
returns c =
    let few : length (part_bits c.args.self.part) ≤ 7 = omega (arith, part_length c.args.self.part, c.args.self.few) in
    bytes_of-part c.args.self.bytes.items (part_bits c.args.self.part) few c.args.self.whole
