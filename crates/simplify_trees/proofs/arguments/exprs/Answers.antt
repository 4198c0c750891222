use Rattle.p4_tree.specs.View.{expr_of}
use Rattle.simplify_rules.specs.Simplified.{IsSimplified}
use Rattle.simplify_trees.proofs.Lists.{one_more, all_made}
use Rattle.simplify_trees.proofs.arguments.exprs.Goals as goal

pub loop-e-preserved : goal.loop-e-preserved
loop-e-preserved g c =
    one_more expr_of (IsSimplified (g.R.Offers.Answers c.args.rules.now)) c.args.list.now c.loop-e.made.items c.push.new.self.items c.loop-e.e-index c.e-item.result c.in_ok-simplified.field-0
    c.loop-e-test.true c.e-item.is c.loop-e.invariant c.in_ok-simplified.ensures.walked c.in_ok-push.ensures.items

pub returns : goal.returns
returns g c = all_made expr_of (IsSimplified (g.R.Offers.Answers c.args.rules.now)) c.args.list.now c.loop-e.made.items c.loop-e.e-index c.loop-e-test.false c.loop-e.invariant
