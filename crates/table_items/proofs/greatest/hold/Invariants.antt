use Rattle.std.proofs.Common.{◌≡◌, ◌++◌, map, take, drop}
use Rattle.table_items.specs.Items.{held_items}
use Rattle.table_items.specs.Views.{contents_view}
use Rattle.table_items.proofs.greatest.hold.Given as goal

abbrev pub invariant-loop-switch : goal.invariant-loop-switch
invariant-loop-switch l = l.most ≡ map (held_items l.seat) (map contents_view (take l.switch l.control)) ++ drop l.switch l.initial.most
