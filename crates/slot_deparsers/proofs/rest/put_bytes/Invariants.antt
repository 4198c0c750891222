use Rattle.std.proofs.Common.{◌≡◌, ◌+◌, ◌*◌, ◌++◌, take, drop}
use Rattle.bit_values.specs.Bytes.{bits_of}
use Rattle.slot_deparsers.proofs.rest.put_bytes.Given as goal

abbrev pub invariant-loop-i : goal.invariant-loop-i
invariant-loop-i l = record {
  grown : take l.end (bits_of l.buffer) ++ bits_of (drop l.i l.bytes) ≡ take l.at (bits_of l.fn.buffer) ++ bits_of l.bytes;
  end : l.end ≡ l.at + 8 * l.i;
}
