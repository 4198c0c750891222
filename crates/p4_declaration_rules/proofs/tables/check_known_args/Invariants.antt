use Rattle.std.proofs.Common.{◌≡◌, drop, map}
use Rattle.p4_tree.specs.View.{expr_of}
use Rattle.p4_scopes.specs.View.{scope_of}
use Rattle.p4_statement_rules.specs.Ranks.{first_from}
use Rattle.p4_declaration_rules.specs.Tables.{known_args}
use Rattle.p4_declaration_rules.proofs.tables.check_known_args.Given as goal

abbrev pub invariant-loop-i : goal.invariant-loop-i
invariant-loop-i l = first_from l.found.first (known_args (scope_of l.scope) (drop l.i l.kinds) (map expr_of (drop l.i l.args))) ≡ first_from l.initial.found.first (known_args (scope_of l.scope) l.kinds (map expr_of l.args))
