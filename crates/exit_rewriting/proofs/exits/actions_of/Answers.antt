use Rattle.p4_tree.specs.View.{top_of}
use Rattle.exit_rewriting.specs.Exiting.{all_action_marks}
use Rattle.exit_rewriting.proofs.Grouping.{groups_next}
use Rattle.exit_rewriting.proofs.exits.actions_of.Goals as goal

pub loop-top-preserved : goal.loop-top-preserved
loop-top-preserved c =
    groups_next all_action_marks top_of c.args.tops.now c.loop-top.groups c.add_top_actions.new.groups c.loop-top.top-index c.top-item.result
    c.loop-top-test.true c.top-item.is c.loop-top.invariant c.in_ok-add_top_actions.ensures
