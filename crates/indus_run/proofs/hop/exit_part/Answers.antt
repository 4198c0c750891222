use Rattle.std.proofs.Common.{map, ap}
use Rattle.indus_tree.specs.View.{block_of, decl_of, property_of}
use Rattle.indus_values.specs.View.{doing_of, reads_in}
use Rattle.indus_run.proofs.HopLemmas.{passes_on, ends_here}
use Rattle.indus_run.proofs.hop.exit_part.Goals as goal

pub returns-then-view-clause-does : goal.returns-then-view-clause-does
returns-then-view-clause-does c =
    let ds = map decl_of c.args.p.now.decls.items in
    ends_here (property_of c.args.p.now) (reads_in ds c.args.view.now c.args.view.now.last c.args.values.now)
    (doing_of ds c.args.tele.now c.args.sensors.now c.args.out.now)
    (doing_of ds c.run_part.new.tele c.run_part.new.sensors c.run_part.new.out)
    (block_of c.deref.result.now) (ap block_of c.deref.ensures.value) c.in_ok-run_part.ensures.does
    c.run_part-then-view.result
    (doing_of ds c.run_part-then-view.new.tele c.run_part-then-view.new.sensors c.run_part-then-view.new.out)
    (block_of c.deref-then-view.result.now) c.if-view.true (ap block_of c.deref-then-view.ensures.value) c.run_part-then-view.ensures.does

pub returns-else-view-clause-does : goal.returns-else-view-clause-does
returns-else-view-clause-does c =
    let ds = map decl_of c.args.p.now.decls.items in
    passes_on (property_of c.args.p.now) (reads_in ds c.args.view.now c.args.view.now.last c.args.values.now)
    (doing_of ds c.args.tele.now c.args.sensors.now c.args.out.now)
    (doing_of ds c.run_part.new.tele c.run_part.new.sensors c.run_part.new.out)
    (block_of c.deref.result.now) (ap block_of c.deref.ensures.value) c.in_ok-run_part.ensures.does c.if-view.false
