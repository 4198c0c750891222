use Rattle.std.proofs.Common.{◌≡◌, ℕ, ◌≤◌, ◌+◌, ◌++◌, take, drop}
use Rattle.bit_values.specs.Bytes.{bits_of, bit_in}
use Rattle.slot_packets.specs.Fields.{slot_bits, widths_sum, AreWidths}
use Rattle.slot_packets.proofs.fields.put_fields.Given as goal

abbrev pub invariant-loop-i : goal.invariant-loop-i
invariant-loop-i l = record {
  grown : take l.end (bits_of l.buffer) ++ slot_bits (drop l.i l.widths) (l.first + l.i) l.slots ≡ take l.at (bits_of l.fn.buffer) ++ slot_bits l.widths l.first l.slots;
  behind : (k : ℕ) → l.at + widths_sum l.widths ≤ k → bit_in l.buffer k ≡ bit_in l.fn.buffer k;
  end : l.end + widths_sum (drop l.i l.widths) ≡ l.at + widths_sum l.widths;
  widths : AreWidths (drop l.i l.widths);
}
