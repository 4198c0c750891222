use Rattle.std.proofs.Common.{◌≡◌, map, drop}
use Rattle.bit_writer.specs.Bytes.{words_bits, bytes_of}
use Rattle.p4_meaning.specs.Checksum.{bytes_sum}
use Rattle.slot_terms.specs.States.{state_of}
use Rattle.slot_terms.specs.Typed.{typed_of}
use Rattle.slot_controls.specs.Steps.{words_at}
use Rattle.slot_controls.specs.Sums.{sum_behind}
use Rattle.slot_controls.proofs.sums.words_checksum.Given as goal

abbrev pub invariant-loop-t : goal.invariant-loop-t
invariant-loop-t l =
    sum_behind l.sum.whole l.sum.part l.sum.count (words_bits (words_at (state_of l.s) (map typed_of (drop l.t-index l.list))))
    ≡ bytes_sum 0 (bytes_of (words_bits (words_at (state_of l.s) (map typed_of l.list))))
