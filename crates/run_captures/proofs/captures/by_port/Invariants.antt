use Rattle.std.proofs.Common.{map, take}
use Rattle.run_captures.specs.Sorted.{port_of, AreSorted}
use Rattle.run_captures.specs.Views.{lent_view, list_view}
use Rattle.run_captures.proofs.captures.by_port.Given as goal

-- the frames that were met stand in the lists of their ports
abbrev pub invariant-loop-x : goal.invariant-loop-x
invariant-loop-x l = AreSorted port_of 511 (map lent_view (take l.x-index l.sent)) (map list_view l.lists.items)
