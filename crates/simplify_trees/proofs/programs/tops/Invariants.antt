use Rattle.std.proofs.Common.{take}
use Rattle.p4_tree.specs.View.{top_of}
use Rattle.rewritten_programs.specs.Rewritten.{TopRewritten}
use Rattle.simplify_rules.specs.Simplified.{IsSimplified}
use Rattle.simplify_trees.proofs.Lists.{AreMade}
use Rattle.simplify_trees.proofs.programs.tops.Given as goal

abbrev pub invariant-loop-t : goal.invariant-loop-t
invariant-loop-t g l = AreMade top_of (TopRewritten (IsSimplified (g.R.Offers.Answers l.rules))) (take l.t-index l.list) l.made.items
