use Rattle.std.proofs.Common.{◌≡◌, ◌≤◌, drop, take, length}
use Rattle.p4_scopes.specs.View.{scope_of}
use Rattle.p4_statement_rules.specs.Ranks.{first_from}
use Rattle.p4_declaration_rules.specs.Parsers.{with_ways, ways_tests}
use Rattle.p4_declaration_rules.proofs.parsers.check_ways.Given as goal

abbrev pub invariant-loop-p : goal.invariant-loop-p
invariant-loop-p l = record {
  kept : take (length l.initial.scope) l.scope ≡ l.initial.scope;
  longer : length l.initial.scope ≤ length l.scope;
  declared : with_ways (scope_of l.scope) (drop l.p-index l.params) ≡ with_ways (scope_of l.initial.scope) l.params;
  rest : first_from l.found.first (ways_tests (scope_of l.scope) (drop l.p-index l.params)) ≡ first_from l.initial.found.first (ways_tests (scope_of l.initial.scope) l.params);
}
