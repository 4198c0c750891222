use Rattle.std.proofs.Common.{◌∷◌, [], ◌++◌, map, take, refl, arith, sym, ap, ◌∙◌, subst}
use Rattle.run_captures.specs.Sorted.{port_of}
use Rattle.run_captures.specs.Views.{lent_view}
use Rattle.run_captures.proofs.Sorting.{one_taken}
use Rattle.run_captures.proofs.captures.by_port.Goals as goal

pub loop-x-init : goal.loop-x-init
loop-x-init c = c.in_ok-lists.ensures port_of

pub loop-x-preserved : goal.loop-x-preserved
loop-x-preserved c =
    rw (one_taken lent_view c.args.sent.now c.loop-x.x-index c.x-item.result (omega arith), sym c.x-item.is)
    (c.in_ok-put.ensures port_of refl 511 (map lent_view (take c.loop-x.x-index c.args.sent.now)) c.loop-x.invariant)
