use Rattle.std.proofs.Common.{map, take}
use Rattle.path_runner.specs.Packets.{sent_of}
use Rattle.run_captures.specs.Sorted.{switch_of, AreSorted}
use Rattle.run_captures.specs.Views.{list_view}
use Rattle.run_captures.proofs.captures.by_switch.Given as goal

-- the frames that were met stand in the lists of their switches
abbrev pub invariant-loop-x : goal.invariant-loop-x
invariant-loop-x l = AreSorted switch_of l.count (map sent_of (take l.x-index l.sent)) (map list_view l.lists.items)
