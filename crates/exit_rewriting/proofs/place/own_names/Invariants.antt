use Rattle.std.proofs.Common.{map, take}
use Rattle.p4_tree.specs.View.{local_of}
use Rattle.exit_rewriting.specs.Marks.{AreMarks, from_each}
use Rattle.exit_rewriting.specs.Exiting.{own_marks}
use Rattle.exit_rewriting.proofs.place.own_names.Given as goal

abbrev pub invariant-loop-local : goal.invariant-loop-local
invariant-loop-local l = AreMarks l.own (from_each own_marks (map local_of (take l.local-index l.locals)))
