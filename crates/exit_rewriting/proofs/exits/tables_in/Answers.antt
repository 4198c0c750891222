use Rattle.p4_tree.specs.View.{local_of}
use Rattle.exit_rewriting.specs.Groups.{is_marked_in}
use Rattle.exit_rewriting.specs.Exiting.{table_marks, name_at}
use Rattle.exit_rewriting.proofs.Marking.{are_next}
use Rattle.exit_rewriting.proofs.exits.tables_in.Goals as goal

pub loop-local-preserved : goal.loop-local-preserved
loop-local-preserved c =
    are_next (table_marks (is_marked_in c.args.actions.now) (name_at c.args.place.now)) local_of c.args.locals.now c.loop-local.marks c.add_local_table.new.marks c.loop-local.local-index c.local-item.result
    c.loop-local-test.true c.local-item.is c.loop-local.invariant c.in_ok-add_local_table.ensures
