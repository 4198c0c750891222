use Rattle.bit_values.specs.Bytes.{bits_of}
use Rattle.tele_layout.proofs.ReadingLemmas.{Taking}
use Rattle.tele_layout.proofs.reading.read_numbers.Given as goal

abbrev pub invariant-loop : goal.invariant-loop
invariant-loop l = Taking l.width l.at l.count (bits_of l.buf) l.counter l.next l.numbers.items
