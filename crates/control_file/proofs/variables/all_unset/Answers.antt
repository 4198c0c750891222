use Rattle.control_file.specs.Views.{contents_view}
use Rattle.control_file.proofs.SeatLemmas.{unset_more}
use Rattle.control_file.proofs.variables.all_unset.Goals as goal

pub loop-decl-preserved : goal.loop-decl-preserved
loop-decl-preserved c = rw c.in_ok-add_unset.ensures (unset_more c.args.decls.now c.loop-decl.decl-index c.decl-item.result c.loop-decl-test.true c.decl-item.is (contents_view c.loop-decl.all) _ c.loop-decl.invariant)
