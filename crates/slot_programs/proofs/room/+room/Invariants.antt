use Rattle.std.proofs.Common.{◌≡◌, ◌+◌, drop}
use Rattle.p4_tree.specs.View.{stmts_of}
use Rattle.slot_programs.specs.Room.{variables_in}
use Rattle.slot_programs.proofs.room.+room.Given as goal

abbrev pub invariant-variables_in-loop-s : goal.invariant-variables_in-loop-s
invariant-variables_in-loop-s l = l.total + variables_in (stmts_of (drop l.s-index l.list)) ≡ variables_in (stmts_of l.list)
