use Rattle.p4_tree.specs.View.{program_of}
use Rattle.simplify_trees.proofs.Standing.{results_stand}
use Rattle.simplify_trees.proofs.programs.simplified_program.Goals as goal

pub returns-clause-stands : goal.returns-clause-stands
returns-clause-stands g c = results_stand (g.R.Offers.Answers c.args.rules.now) (g.met.R.Offers.right c.args.rules.now) (program_of c.args.p.now) c.program.result c.program.ensures
