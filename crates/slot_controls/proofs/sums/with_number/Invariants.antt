use Rattle.std.proofs.Common.{◌≡◌, ◌≤◌, ℕ, List, ◌++◌}
use Rattle.bit_values.specs.BitLists.{number_bits}
use Rattle.slot_controls.specs.Sums.{sum_behind}
use Rattle.slot_controls.proofs.sums.with_number.Given as goal

abbrev pub invariant-loop-left : goal.invariant-loop-left
invariant-loop-left l = record {
  few : l.left ≤ l.width;
  sum : (more : List ℕ) → sum_behind l.sum.whole l.sum.part l.sum.count (number_bits l.left l.value ++ more) ≡ sum_behind l.fn.sum.whole l.fn.sum.part l.fn.sum.count (number_bits l.width l.value ++ more);
}

abbrev pub decreases-loop-left : goal.decreases-loop-left
decreases-loop-left l = l.left
