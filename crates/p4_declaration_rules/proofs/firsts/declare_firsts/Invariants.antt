use Rattle.std.proofs.Common.{◌≡◌, drop, map}
use Rattle.p4_tree.specs.View.{top_of}
use Rattle.p4_scopes.specs.View.{scope_of}
use Rattle.p4_declaration_rules.specs.Firsts.{first_tops}
use Rattle.p4_declaration_rules.proofs.firsts.declare_firsts.Given as goal

abbrev pub invariant-loop-top : goal.invariant-loop-top
invariant-loop-top l = first_tops (scope_of l.scope) (map top_of (drop l.top-index l.tops)) ≡ first_tops (scope_of l.initial.scope) (map top_of l.tops)
