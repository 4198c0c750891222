use Rattle.std.proofs.Common.{take}
use Rattle.p4_tree.specs.View.{key_of}
use Rattle.rewritten_programs.specs.Rewritten.{KeyRewritten}
use Rattle.simplify_rules.specs.Simplified.{IsSimplified}
use Rattle.simplify_trees.proofs.Lists.{AreMade}
use Rattle.simplify_trees.proofs.declarations.keys.Given as goal

abbrev pub invariant-loop-k : goal.invariant-loop-k
invariant-loop-k g l = AreMade key_of (KeyRewritten (IsSimplified (g.R.Offers.Answers l.rules))) (take l.k-index l.list) l.made.items
