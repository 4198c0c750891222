use Rattle.std.proofs.Common.{◌≡◌, drop, map}
use Rattle.p4_tree.specs.View.{key_of}
use Rattle.p4_scopes.specs.View.{scope_of}
use Rattle.p4_statement_rules.specs.Ranks.{first_from}
use Rattle.p4_declaration_rules.specs.Tables.{keys_tests}
use Rattle.p4_declaration_rules.proofs.tables.check_keys.Given as goal

abbrev pub invariant-loop-key : goal.invariant-loop-key
invariant-loop-key l = first_from l.found.first (keys_tests (scope_of l.scope) (map key_of (drop l.key-index l.keys))) ≡ first_from l.initial.found.first (keys_tests (scope_of l.scope) (map key_of l.keys))
