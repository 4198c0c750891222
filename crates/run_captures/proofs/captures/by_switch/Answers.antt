use Rattle.std.proofs.Common.{◌∷◌, [], ◌++◌, map, take, refl, arith, sym, ap, ◌∙◌, subst}
use Rattle.path_runner.specs.Packets.{sent_of}
use Rattle.run_captures.specs.Sorted.{switch_of}
use Rattle.run_captures.proofs.Sorting.{one_taken}
use Rattle.run_captures.proofs.captures.by_switch.Goals as goal

pub loop-x-init : goal.loop-x-init
loop-x-init c = c.in_ok-lists.ensures switch_of

pub loop-x-preserved : goal.loop-x-preserved
loop-x-preserved c =
    rw (one_taken sent_of c.args.sent.now c.loop-x.x-index c.x-item.result (omega arith), sym c.x-item.is)
    (c.in_ok-put.ensures switch_of refl c.args.count (map sent_of (take c.loop-x.x-index c.args.sent.now)) c.loop-x.invariant)
