use Rattle.p4_tree.specs.View.{key_of}
use Rattle.rewritten_programs.specs.Rewritten.{KeyRewritten}
use Rattle.simplify_rules.specs.Simplified.{IsSimplified}
use Rattle.simplify_trees.proofs.Lists.{one_more, all_made}
use Rattle.simplify_trees.proofs.declarations.keys.Goals as goal

pub loop-k-preserved : goal.loop-k-preserved
loop-k-preserved g c =
    one_more key_of (KeyRewritten (IsSimplified (g.R.Offers.Answers c.args.rules.now))) c.args.list.now c.loop-k.made.items c.push.new.self.items c.loop-k.k-index c.k-item.result c.in_ok-key.field-0
    c.loop-k-test.true c.k-item.is c.loop-k.invariant c.in_ok-key.ensures c.in_ok-push.ensures.items

pub returns : goal.returns
returns g c = all_made key_of (KeyRewritten (IsSimplified (g.R.Offers.Answers c.args.rules.now))) c.args.list.now c.loop-k.made.items c.loop-k.k-index c.loop-k-test.false c.loop-k.invariant
