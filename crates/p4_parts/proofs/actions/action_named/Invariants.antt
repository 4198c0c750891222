use Rattle.std.proofs.Common.{◌≡◌, map, drop}
use Rattle.p4_meaning.specs.Actions.{action_named}
use Rattle.p4_parts.specs.PartsIn.{action_in}
use Rattle.p4_parts.proofs.actions.action_named.Given as goal

abbrev pub invariant-loop-a : goal.invariant-loop-a
invariant-loop-a l = action_named (map action_in (drop l.a-index l.actions)) l.x ≡ action_named (map action_in l.actions) l.x
