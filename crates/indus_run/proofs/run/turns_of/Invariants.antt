use Rattle.std.proofs.Common.{◌≡◌, map}
use Rattle.indus_tree.specs.Meaning.{first_turns}
use Rattle.indus_values.specs.View.{cells_of}
use Rattle.indus_run.proofs.run.turns_of.Given as goal

abbrev pub invariant-loop-k : goal.invariant-loop-k
invariant-loop-k l = map cells_of l.turns.items ≡ first_turns l.k (map cells_of l.lists)
