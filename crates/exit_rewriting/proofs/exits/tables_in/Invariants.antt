use Rattle.std.proofs.Common.{map, take}
use Rattle.p4_tree.specs.View.{local_of}
use Rattle.exit_rewriting.specs.Marks.{AreMarks, from_each}
use Rattle.exit_rewriting.specs.Groups.{is_marked_in}
use Rattle.exit_rewriting.specs.Exiting.{table_marks, name_at}
use Rattle.exit_rewriting.proofs.exits.tables_in.Given as goal

abbrev pub invariant-loop-local : goal.invariant-loop-local
invariant-loop-local l = AreMarks l.marks (from_each (table_marks (is_marked_in l.actions) (name_at l.place)) (map local_of (take l.local-index l.locals)))
