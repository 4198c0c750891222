use Rattle.p4_tree.specs.View.{expr_of}
use Rattle.simplify_rules.specs.DropNeutral.{drop_neutral}
use Rattle.simplify_rules.proofs.Answered.{results_stand}
use Rattle.simplify_rules.proofs.Drops.{drop_neutral_stands}
use Rattle.simplify_rules.proofs.neutral.drop_neutral.Goals as goal

pub returns-clause-stands : goal.returns-clause-stands
returns-clause-stands c = results_stand (expr_of c.args.e.now) c.neutral_answer.result (drop_neutral (expr_of c.args.e.now)) c.neutral_answer.ensures (drop_neutral_stands (expr_of c.args.e.now))
