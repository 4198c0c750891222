use Rattle.std.proofs.Common.{◌≡◌, map, drop}
use Rattle.std.specs.List.{list_any}
use Rattle.p4_tree.specs.View.{local_of}
use Rattle.exit_programs.specs.Programs.{local_exits}
use Rattle.exit_rewriting.proofs.declarations.some_exits.Given as goal

abbrev pub invariant-loop-l : goal.invariant-loop-l
invariant-loop-l l = list_any local_exits (map local_of (drop l.l-index l.locals)) ≡ list_any local_exits (map local_of l.locals)
