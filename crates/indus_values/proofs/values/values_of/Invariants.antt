use Rattle.std.proofs.Common.{◌≡◌, ◌+◌, ◌++◌, drop, length}
use Rattle.indus_tree.specs.View.{exprs_of}
use Rattle.indus_tree.specs.Value.{values_of}
use Rattle.indus_values.specs.View.{seen_of}
use Rattle.indus_tree.specs.Tree.{exprs_count}
use Rattle.indus_values.proofs.values.values_of.Given as goal

abbrev pub invariant-loop-e : goal.invariant-loop-e
invariant-loop-e l = (length l.words.items + exprs_count (exprs_of (drop l.e-index l.values)) ≡ exprs_count (exprs_of l.values)) × (l.words.items ++ values_of (seen_of l.env l.items l.tele l.sensors) (exprs_of (drop l.e-index l.values)) ≡ values_of (seen_of l.env l.items l.tele l.sensors) (exprs_of l.values))
