use Rattle.std.proofs.Common.{◌≡◌, ◌++◌, drop, map}
use Rattle.p4_tree.specs.View.{expr_of}
use Rattle.p4_scopes.specs.View.{scope_of}
use Rattle.p4_declaration_rules.specs.Loops.{wanted_kinds}
use Rattle.p4_declaration_rules.proofs.transitions.wanted_kinds.Given as goal

abbrev pub invariant-loop-e : goal.invariant-loop-e
invariant-loop-e l = l.kinds.items ++ wanted_kinds (scope_of l.scope) (map expr_of (drop l.e-index l.values)) ≡ wanted_kinds (scope_of l.scope) (map expr_of l.values)
