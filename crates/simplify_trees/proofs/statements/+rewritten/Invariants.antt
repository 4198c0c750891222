use Rattle.std.proofs.Common.{take}
use Rattle.p4_tree.specs.View.{stmt_of}
use Rattle.rewritten_programs.specs.Rewritten.{StmtRewritten}
use Rattle.simplify_rules.specs.Simplified.{IsSimplified}
use Rattle.simplify_trees.proofs.Lists.{AreMade}
use Rattle.simplify_trees.proofs.statements.+rewritten.Given as goal

abbrev pub invariant-stmts-loop-s : goal.invariant-stmts-loop-s
invariant-stmts-loop-s g l = AreMade stmt_of (StmtRewritten (IsSimplified (g.R.Offers.Answers l.rules))) (take l.s-index l.list) l.made.items
