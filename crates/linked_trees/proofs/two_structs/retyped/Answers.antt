use Rattle.std.proofs.Common.{◌∙◌}
use Rattle.linked_trees.proofs.Retyped.{retyped_pushed}
use Rattle.linked_trees.proofs.two_structs.retyped.Goals as goal

pub loop-q-preserved : goal.loop-q-preserved
loop-q-preserved c =
    retyped_pushed c.args.at c.loop-q.q-index c.args.params.now c.loop-q.all.items c.push.new.self.items c.q-item.result c.in_ok-param_parted.field-0 c.len.result c.loop-q-test.true c.q-item.is c.loop-q.invariant (c.len.ensures ∙ c.loop-q.all.ok.0)
    c.in_ok-param_parted.ensures c.in_ok-push.ensures.items
