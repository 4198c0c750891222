use Rattle.std.proofs.Common.{◌≡◌, ◌≤◌, drop, length}
use Rattle.p4_parts.specs.PartsIn.{parts_in}
use Rattle.p4_tables.specs.CarriedWalk.{all_refilled}
use Rattle.p4_tables.proofs.carry.carry.Given as goal

abbrev pub invariant-loop-left : goal.invariant-loop-left
invariant-loop-left l =
    record {
      within : l.left ≤ length l.held;
      filled : l.tables.items ≡ all_refilled (parts_in l.from) (parts_in l.to) (drop l.left (parts_in l.from).tables) (drop l.left l.held) l.initial.tables.items;
    }

abbrev pub decreases-loop-left : goal.decreases-loop-left
decreases-loop-left l = l.left
