use Rattle.std.proofs.Common.{take}
use Rattle.rewritten_programs.specs.Values.{is_value}
use Rattle.simplify_rules.specs.Simplified.{IsSimplified}
use Rattle.simplify_trees.proofs.ArgumentLists.{AreArgs}
use Rattle.simplify_trees.proofs.arguments.args.Given as goal

abbrev pub invariant-loop-number : goal.invariant-loop-number
invariant-loop-number g l = AreArgs (IsSimplified (g.R.Offers.Answers l.rules)) (is_value l.callee) (take l.number l.list) l.made.items
