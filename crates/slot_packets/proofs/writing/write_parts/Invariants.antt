use Rattle.std.proofs.Common.{◌≡◌, ℕ, ◌+◌, ◌-◌, ◌%◌, ◌<◌, ◌≤◌}
use Rattle.std.specs.Int.{bit_at}
use Rattle.bit_values.specs.Bytes.{bit_in}
use Rattle.slot_packets.proofs.writing.write_parts.Given as goal

-- the bits before `end` are written, of the number but the `left` lowest, and no other bit has changed
abbrev pub invariant-loop-left : goal.invariant-loop-left
invariant-loop-left l = record {
  end : l.end + l.left ≡ l.at + l.width;
  whole : l.end % 8 ≡ 0;
  fewer : l.left ≤ l.width;
  written : (k : ℕ) → k < l.width - l.left → bit_in l.buffer (l.at + k) ≡ bit_at l.number (l.width - 1 - k);
  before : (k : ℕ) → k < l.at → bit_in l.buffer k ≡ bit_in l.fn.buffer k;
  behind : (k : ℕ) → l.end ≤ k → bit_in l.buffer k ≡ bit_in l.fn.buffer k;
}

abbrev pub decreases-loop-left : goal.decreases-loop-left
decreases-loop-left l = l.left
