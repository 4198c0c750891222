use Rattle.std.proofs.Common.{◌≡◌, drop}
use Rattle.std.specs.Prelude.{nat_lt}
use Rattle.slot_packets.specs.Fields.{widths_sum}
use Rattle.slot_parsers.proofs.steps.is_short.Given as goal

abbrev pub invariant-loop-width : goal.invariant-loop-width
invariant-loop-width l = nat_lt l.left (widths_sum (drop l.width-index l.widths)) ≡ nat_lt l.room (widths_sum l.widths)
