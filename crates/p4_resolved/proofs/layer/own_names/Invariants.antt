use Rattle.std.proofs.Common.{◌≡◌, ◌++◌, map, drop}
use Rattle.p4_tree.specs.View.{local_of}
use Rattle.p4_meaning.specs.Scope.{own_names}
use Rattle.p4_resolved.specs.Scopes.{names_of}
use Rattle.p4_resolved.proofs.layer.own_names.Given as goal

abbrev pub invariant-loop-local : goal.invariant-loop-local
invariant-loop-local l = names_of l.names ++ own_names (map local_of (drop l.local-index l.locals)) ≡ own_names (map local_of l.locals)
