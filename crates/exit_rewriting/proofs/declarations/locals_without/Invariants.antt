use Rattle.std.proofs.Common.{◌≡◌, map, take}
use Rattle.p4_tree.specs.View.{local_of}
use Rattle.exit_programs.specs.Programs.{local_without, with_flag}
use Rattle.exit_rewriting.proofs.declarations.locals_without.Given as goal

abbrev pub invariant-loop-l : goal.invariant-loop-l
invariant-loop-l l = map local_of l.new.items ≡ with_flag l.leaves (map local_without (map local_of (take l.l-index l.locals)))
