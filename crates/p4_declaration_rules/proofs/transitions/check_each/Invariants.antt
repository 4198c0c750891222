use Rattle.std.proofs.Common.{◌≡◌, drop, map}
use Rattle.p4_tree.specs.View.{keyset_of}
use Rattle.p4_scopes.specs.View.{scope_of}
use Rattle.p4_statement_rules.specs.Ranks.{first_from}
use Rattle.p4_declaration_rules.specs.Loops.{each_wanted}
use Rattle.p4_declaration_rules.proofs.transitions.check_each.Given as goal

abbrev pub invariant-loop-i : goal.invariant-loop-i
invariant-loop-i l = first_from l.found.first (each_wanted (scope_of l.scope) (drop l.i l.wants) (map keyset_of (drop l.i l.keys))) ≡ first_from l.initial.found.first (each_wanted (scope_of l.scope) l.wants (map keyset_of l.keys))
