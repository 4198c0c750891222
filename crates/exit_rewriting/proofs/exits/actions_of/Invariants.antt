use Rattle.std.proofs.Common.{map, take}
use Rattle.p4_tree.specs.View.{top_of}
use Rattle.exit_rewriting.specs.Marks.{from_each}
use Rattle.exit_rewriting.specs.Groups.{AreGroups}
use Rattle.exit_rewriting.specs.Exiting.{all_action_marks}
use Rattle.exit_rewriting.proofs.exits.actions_of.Given as goal

abbrev pub invariant-loop-top : goal.invariant-loop-top
invariant-loop-top l = AreGroups l.groups (from_each all_action_marks (map top_of (take l.top-index l.tops)))
