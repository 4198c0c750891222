use Rattle.std.proofs.Common.{◌≡◌, ◌++◌, map, take, drop}
use Rattle.table_items.specs.Steps.{cap}
use Rattle.table_items.proofs.sums.start.Given as goal

abbrev pub invariant-loop-switch : goal.invariant-loop-switch
invariant-loop-switch l = l.sums ≡ map cap (take l.switch l.entries) ++ drop l.switch l.initial.sums
