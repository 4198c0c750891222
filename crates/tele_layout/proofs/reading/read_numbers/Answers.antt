use Rattle.bit_values.specs.Bytes.{bits_of}
use Rattle.tele_layout.proofs.ReadingLemmas.{take_more}
use Rattle.tele_layout.proofs.reading.read_numbers.Goals as goal

pub loop-preserved : goal.loop-preserved
loop-preserved c =
    take_more c.args.width c.args.at c.args.count (bits_of c.args.buf.now) c.loop.counter c.loop.next c.loop.numbers.items c.push.new.self.items c.take_bits.result
    c.loop-test.true c.take_bits.ensures.number c.in_ok-push.ensures.items c.loop.invariant
