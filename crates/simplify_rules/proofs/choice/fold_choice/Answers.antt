use Rattle.p4_tree.specs.View.{expr_of}
use Rattle.simplify_rules.specs.FoldChoice.{fold_choice}
use Rattle.simplify_rules.proofs.Answered.{results_stand}
use Rattle.simplify_rules.proofs.Logic.{fold_choice_stands}
use Rattle.simplify_rules.proofs.choice.fold_choice.Goals as goal

pub returns-clause-stands : goal.returns-clause-stands
returns-clause-stands c = results_stand (expr_of c.args.e.now) c.choice_answer.result (fold_choice (expr_of c.args.e.now)) c.choice_answer.ensures (fold_choice_stands (expr_of c.args.e.now))
