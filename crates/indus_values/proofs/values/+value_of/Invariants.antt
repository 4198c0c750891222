use Rattle.std.proofs.Common.{◌≡◌, ◌++◌, drop}
use Rattle.indus_tree.specs.View.{exprs_of}
use Rattle.indus_tree.specs.Value.{key_of}
use Rattle.indus_values.specs.View.{seen_of}
use Rattle.indus_values.proofs.values.+value_of.Given as goal

abbrev pub invariant-key_of-loop-e : goal.invariant-key_of-loop-e
invariant-key_of-loop-e l = l.words.items ++ key_of (seen_of l.env l.items l.tele l.sensors) (exprs_of (drop l.e-index l.key)) l.rest ≡ key_of (seen_of l.env l.items l.tele l.sensors) (exprs_of l.key) l.initial.rest
