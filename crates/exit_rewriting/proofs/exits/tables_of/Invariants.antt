use Rattle.std.proofs.Common.{map, take}
use Rattle.p4_tree.specs.View.{top_of}
use Rattle.exit_rewriting.specs.Marks.{from_each}
use Rattle.exit_rewriting.specs.Groups.{AreGroups, is_marked_in}
use Rattle.exit_rewriting.specs.Exiting.{all_table_marks}
use Rattle.exit_rewriting.proofs.exits.tables_of.Given as goal

abbrev pub invariant-loop-top : goal.invariant-loop-top
invariant-loop-top l = AreGroups l.groups (from_each (all_table_marks (is_marked_in l.actions)) (map top_of (take l.top-index l.tops)))
