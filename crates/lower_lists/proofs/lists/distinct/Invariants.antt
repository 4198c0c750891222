use Rattle.std.proofs.Common.{◌≡◌, drop}
use Rattle.lower_lists.specs.Flat.{distinct, distinct_behind}
use Rattle.lower_lists.proofs.lists.distinct.Given as goal

abbrev pub invariant-loop-number : goal.invariant-loop-number
invariant-loop-number l = distinct_behind l.kept.items (drop l.number-index l.numbers) ≡ distinct l.numbers
