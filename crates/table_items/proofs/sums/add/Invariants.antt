use Rattle.std.proofs.Common.{◌≡◌, ◌++◌, take, drop}
use Rattle.table_items.specs.Steps.{added}
use Rattle.table_items.proofs.sums.add.Given as goal

abbrev pub invariant-loop-switch : goal.invariant-loop-switch
invariant-loop-switch l =
    l.sums ≡ added l.reads (take l.switch l.initial.sums) (take l.switch l.most) ++ drop l.switch l.initial.sums
