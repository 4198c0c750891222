use Rattle.std.proofs.Common.{take}
use Rattle.p4_parts.specs.Places.{Tells, action_names}
use Rattle.p4_parts.proofs.places.action_places.Given as goal

abbrev pub invariant-loop-i : goal.invariant-loop-i
invariant-loop-i l = Tells l.places.entries (action_names (take l.i l.actions))
