use Rattle.p4_tree.specs.View.{local_of}
use Rattle.exit_rewriting.specs.Exiting.{action_marks}
use Rattle.exit_rewriting.proofs.Marking.{are_next}
use Rattle.exit_rewriting.proofs.exits.actions_in.Goals as goal

pub loop-local-preserved : goal.loop-local-preserved
loop-local-preserved c =
    are_next action_marks local_of c.args.locals.now c.loop-local.marks c.add_action.new.marks c.loop-local.local-index c.local-item.result
    c.loop-local-test.true c.local-item.is c.loop-local.invariant c.in_ok-add_action.ensures
