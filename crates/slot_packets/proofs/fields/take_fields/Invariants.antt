use Rattle.std.proofs.Common.{◌≡◌, ◌+◌, drop}
use Rattle.bit_values.specs.Bytes.{bits_of}
use Rattle.slot_packets.specs.Fields.{take_fields, widths_sum, AreWidths}
use Rattle.slot_packets.proofs.fields.take_fields.Given as goal

abbrev pub invariant-loop-i : goal.invariant-loop-i
invariant-loop-i l = record {
  taken : take_fields (drop l.i l.widths) (l.first + l.i) (drop l.end (bits_of l.frame)) l.slots ≡ take_fields l.widths l.first (drop l.at (bits_of l.frame)) l.initial.slots;
  end : l.end + widths_sum (drop l.i l.widths) ≡ l.at + widths_sum l.widths;
  widths : AreWidths (drop l.i l.widths);
}
