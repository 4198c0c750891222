use Rattle.std.proofs.Common.{take}
use Rattle.p4_tree.specs.View.{expr_of}
use Rattle.simplify_rules.specs.Simplified.{IsSimplified}
use Rattle.simplify_trees.proofs.Lists.{AreMade}
use Rattle.simplify_trees.proofs.arguments.exprs.Given as goal

abbrev pub invariant-loop-e : goal.invariant-loop-e
invariant-loop-e g l = AreMade expr_of (IsSimplified (g.R.Offers.Answers l.rules)) (take l.e-index l.list) l.made.items
