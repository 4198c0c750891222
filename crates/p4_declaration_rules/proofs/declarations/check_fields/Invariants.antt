use Rattle.std.proofs.Common.{◌≡◌, drop}
use Rattle.p4_scopes.specs.View.{scope_of}
use Rattle.p4_statement_rules.specs.Ranks.{first_from}
use Rattle.p4_declaration_rules.specs.Declarations.{fields_tests}
use Rattle.p4_declaration_rules.specs.Loops.{misfit_of}
use Rattle.p4_declaration_rules.proofs.declarations.check_fields.Given as goal

abbrev pub invariant-loop-field : goal.invariant-loop-field
invariant-loop-field l = first_from l.found.first (fields_tests l.at (misfit_of l.wanted) (scope_of l.scope) (drop l.field-index l.fields)) ≡ first_from l.initial.found.first (fields_tests l.at (misfit_of l.wanted) (scope_of l.scope) l.fields)
