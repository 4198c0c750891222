use Rattle.p4_tree.specs.View.{expr_of}
use Rattle.simplify_rules.proofs.Walked.{results_stand}
use Rattle.simplify_rules.proofs.walk.simplified.Goals as goal

pub returns-clause-stands : goal.returns-clause-stands
returns-clause-stands g c = results_stand _ (g.met.R.Offers.right c.args.rules.now) (expr_of c.args.e.now) c.walked.result c.walked.ensures
