use Rattle.std.proofs.Common.{◌≡◌, ◌≤◌, drop, take, length}
use Rattle.p4_scopes.specs.View.{scope_of}
use Rattle.p4_statement_rules.specs.Ranks.{first_from}
use Rattle.p4_declaration_rules.specs.Declarations.{params_tests, with_params}
use Rattle.p4_declaration_rules.proofs.declarations.check_params.Given as goal

abbrev pub invariant-loop-p : goal.invariant-loop-p
invariant-loop-p l = record {
  kept : take (length l.initial.scope) l.scope ≡ l.initial.scope;
  longer : length l.initial.scope ≤ length l.scope;
  declared : with_params (scope_of l.scope) (drop l.p-index l.params) ≡ with_params (scope_of l.initial.scope) l.params;
  rest : first_from l.found.first (params_tests l.at (scope_of l.scope) (drop l.p-index l.params)) ≡ first_from l.initial.found.first (params_tests l.at (scope_of l.initial.scope) l.params);
}
