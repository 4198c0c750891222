use Rattle.std.proofs.Common.{◌≡◌, map, drop}
use Rattle.std.specs.Prelude.{max}
use Rattle.p4_parts.specs.PartsIn.{action_in}
use Rattle.slot_programs.specs.Room.{actions_room}
use Rattle.slot_programs.proofs.room.actions_room.Given as goal

abbrev pub invariant-loop-a : goal.invariant-loop-a
invariant-loop-a l = max l.most (actions_room (map action_in (drop l.a-index l.actions))) ≡ actions_room (map action_in l.actions)
