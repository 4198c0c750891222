use Rattle.std.proofs.Common.{◌≡◌, ◌++◌, map, take}
use Rattle.p4_tree.specs.View.{state_of}
use Rattle.p4_resolved.specs.Scopes.{roots_in}
use Rattle.linked_programs.specs.Linked.{own_state}
use Rattle.linked_trees.proofs.parsers.add_states.Given as goal

abbrev pub invariant-loop-s : goal.invariant-loop-s
invariant-loop-s l = map state_of l.all.items ≡ map state_of l.initial.all.items ++ map (own_state (roots_in l.roots)) (map state_of (take l.s-index l.list))
