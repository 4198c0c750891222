use Rattle.p4_tree.specs.View.{expr_of}
use Rattle.simplify_rules.proofs.FirstAnswers.{IsLeft}
use Rattle.simplify_rules.proofs.offers.first_answer.Given as goal

abbrev pub invariant-loop-rule : goal.invariant-loop-rule
invariant-loop-rule g l = IsLeft g.R.Offers.Answers (expr_of l.e) l.rules l.rule-index
