use Rattle.p4_tree.specs.View.{local_of}
use Rattle.rewritten_programs.specs.Rewritten.{LocalRewritten}
use Rattle.simplify_rules.specs.Simplified.{IsSimplified}
use Rattle.simplify_trees.proofs.Lists.{one_more, all_made}
use Rattle.simplify_trees.proofs.declarations.locals.Goals as goal

pub loop-l-preserved : goal.loop-l-preserved
loop-l-preserved g c =
    one_more local_of (LocalRewritten (IsSimplified (g.R.Offers.Answers c.args.rules.now))) c.args.list.now c.loop-l.made.items c.push.new.self.items c.loop-l.l-index c.l-item.result c.in_ok-local.field-0
    c.loop-l-test.true c.l-item.is c.loop-l.invariant c.in_ok-local.ensures c.in_ok-push.ensures.items

pub returns : goal.returns
returns g c = all_made local_of (LocalRewritten (IsSimplified (g.R.Offers.Answers c.args.rules.now))) c.args.list.now c.loop-l.made.items c.loop-l.l-index c.loop-l-test.false c.loop-l.invariant
