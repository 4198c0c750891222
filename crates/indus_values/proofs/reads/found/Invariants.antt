use Rattle.std.proofs.Common.{◌≡◌, map, drop}
use Rattle.indus_tree.specs.Keys.{found}
use Rattle.indus_values.specs.View.{entry_of}
use Rattle.indus_values.proofs.reads.found.Given as goal

abbrev pub invariant-loop-entry : goal.invariant-loop-entry
invariant-loop-entry l = found (map entry_of (drop l.entry-index l.entries)) l.key l.w ≡ found (map entry_of l.entries) l.key l.w
