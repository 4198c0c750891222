use Rattle.std.proofs.Common.{arith}
use Rattle.control_file.proofs.SeatLemmas.{seats_more}
use Rattle.control_file.proofs.variables.seats.Goals as goal

pub loop-decl-preserved : goal.loop-decl-preserved
loop-decl-preserved c = (
  rw (c.in_ok-push.ensures.items, c.one_if_control-next.ensures.value) (seats_more c.args.decls.now c.loop-decl.decl-index c.decl-item.result c.loop-decl-test.true c.decl-item.is c.loop-decl.seats.items c.loop-decl.next _ c.loop-decl.invariant.0),
  omega (arith, c.loop-decl.invariant.1, c.one_if_control-next.ensures.small),
)
