use Rattle.std.proofs.Common.{take}
use Rattle.p4_tree.specs.View.{local_of}
use Rattle.rewritten_programs.specs.Rewritten.{LocalRewritten}
use Rattle.simplify_rules.specs.Simplified.{IsSimplified}
use Rattle.simplify_trees.proofs.Lists.{AreMade}
use Rattle.simplify_trees.proofs.declarations.locals.Given as goal

abbrev pub invariant-loop-l : goal.invariant-loop-l
invariant-loop-l g l = AreMade local_of (LocalRewritten (IsSimplified (g.R.Offers.Answers l.rules))) (take l.l-index l.list) l.made.items
