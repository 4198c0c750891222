use Rattle.std.proofs.Common.{◌≡◌, ◌+◌, drop}
use Rattle.slot_packets.specs.Fields.{widths_sum}
use Rattle.slot_deparsers.proofs.headers.sum_of.Given as goal

abbrev pub invariant-loop-width : goal.invariant-loop-width
invariant-loop-width l = l.sum + widths_sum (drop l.width-index l.widths) ≡ widths_sum l.widths
