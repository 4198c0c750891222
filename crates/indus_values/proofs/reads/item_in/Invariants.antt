use Rattle.std.proofs.Common.{◌≡◌, drop}
use Rattle.indus_tree.specs.Reads.{item_in}
use Rattle.indus_values.proofs.reads.item_in.Given as goal

abbrev pub invariant-loop-item : goal.invariant-loop-item
invariant-loop-item l = item_in (drop l.item-index l.items) l.name ≡ item_in l.items l.name
