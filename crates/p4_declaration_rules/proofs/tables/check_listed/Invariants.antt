use Rattle.std.proofs.Common.{◌≡◌, drop}
use Rattle.p4_scopes.specs.View.{scope_of}
use Rattle.p4_statement_rules.specs.Ranks.{first_from}
use Rattle.p4_declaration_rules.specs.Tables.{listed_tests}
use Rattle.p4_declaration_rules.proofs.tables.check_listed.Given as goal

abbrev pub invariant-loop-action : goal.invariant-loop-action
invariant-loop-action l = first_from l.found.first (listed_tests l.at (scope_of l.scope) (drop l.action-index l.actions)) ≡ first_from l.initial.found.first (listed_tests l.at (scope_of l.scope) l.actions)
