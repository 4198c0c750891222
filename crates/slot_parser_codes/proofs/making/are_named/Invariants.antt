use Rattle.std.proofs.Common.{◌≡◌, map, length}
use Rattle.p4_tree.specs.View.{state_of}
use Rattle.slot_parsers.specs.Parses.{are_named}
use Rattle.slot_parser_codes.proofs.making.are_named.Given as goal

abbrev pub invariant-loop-left : goal.invariant-loop-left
invariant-loop-left l = are_named (map state_of l.left) ≡ are_named (map state_of l.states)

abbrev pub decreases-loop-left : goal.decreases-loop-left
decreases-loop-left l = length l.left
