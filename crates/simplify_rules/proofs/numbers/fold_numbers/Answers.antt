use Rattle.p4_tree.specs.View.{expr_of}
use Rattle.simplify_rules.specs.FoldNumbers.{fold_numbers}
use Rattle.simplify_rules.proofs.Answered.{answer_stands}
use Rattle.simplify_rules.proofs.KnownOperands.{fold_numbers_stands}
use Rattle.simplify_rules.proofs.numbers.fold_numbers.Goals as goal

pub returns-clause-stands : goal.returns-clause-stands
returns-clause-stands c = answer_stands (expr_of c.args.e.now) c.number_answer.result (fold_numbers (expr_of c.args.e.now)) c.number_answer.ensures (fold_numbers_stands (expr_of c.args.e.now))
