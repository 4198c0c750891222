use Rattle.p4_tree.specs.View.{top_of}
use Rattle.rewritten_programs.specs.Rewritten.{TopRewritten}
use Rattle.simplify_rules.specs.Simplified.{IsSimplified}
use Rattle.simplify_trees.proofs.Lists.{one_more, all_made}
use Rattle.simplify_trees.proofs.programs.tops.Goals as goal

pub loop-t-preserved : goal.loop-t-preserved
loop-t-preserved g c =
    one_more top_of (TopRewritten (IsSimplified (g.R.Offers.Answers c.args.rules.now))) c.args.list.now c.loop-t.made.items c.push.new.self.items c.loop-t.t-index c.t-item.result c.in_ok-top.field-0
    c.loop-t-test.true c.t-item.is c.loop-t.invariant c.in_ok-top.ensures c.in_ok-push.ensures.items

pub returns : goal.returns
returns g c = all_made top_of (TopRewritten (IsSimplified (g.R.Offers.Answers c.args.rules.now))) c.args.list.now c.loop-t.made.items c.loop-t.t-index c.loop-t-test.false c.loop-t.invariant
