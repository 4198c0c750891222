use Rattle.std.proofs.Common.{◌≡◌, ◌≤◌, map, drop, length}
use Rattle.std.specs.Option.{option_map}
use Rattle.table_entries.specs.Walk.{lent, found_in}
use Rattle.table_entries.specs.View.{entry_of}
use Rattle.table_entries.proofs.choice.find.Given as goal

abbrev pub invariant-loop-left : goal.invariant-loop-left
invariant-loop-left l = record {
  within : l.left ≤ length l.entries;
  found : option_map entry_of (lent l.found) ≡ found_in l.has_ternary (map entry_of (drop l.left l.entries)) l.keys;
}

abbrev pub decreases-loop-left : goal.decreases-loop-left
decreases-loop-left l = l.left
