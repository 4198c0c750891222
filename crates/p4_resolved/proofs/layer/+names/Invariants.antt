use Rattle.std.proofs.Common.{◌≡◌, ◌++◌, drop}
use Rattle.p4_tree.specs.View.{stmts_of}
use Rattle.p4_meaning.specs.Scope.{names_in}
use Rattle.p4_resolved.specs.Scopes.{names_of}
use Rattle.p4_resolved.proofs.layer.+names.Given as goal

abbrev pub invariant-push_names_in-loop-s : goal.invariant-push_names_in-loop-s
invariant-push_names_in-loop-s l = names_of l.names ++ names_in (stmts_of (drop l.s-index l.list)) ≡ names_of l.initial.names ++ names_in (stmts_of l.list)
