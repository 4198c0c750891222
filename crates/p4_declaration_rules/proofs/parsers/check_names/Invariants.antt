use Rattle.std.proofs.Common.{◌≡◌, ◌≤◌, drop, take, length, map}
use Rattle.p4_tree.specs.View.{state_of}
use Rattle.p4_scopes.specs.View.{scope_of}
use Rattle.p4_statement_rules.specs.Ranks.{first_from}
use Rattle.p4_declaration_rules.specs.Parsers.{with_states, states_names}
use Rattle.p4_declaration_rules.proofs.parsers.check_names.Given as goal

abbrev pub invariant-loop-state : goal.invariant-loop-state
invariant-loop-state l = record {
  kept : take (length l.initial.scope) l.scope ≡ l.initial.scope;
  longer : length l.initial.scope ≤ length l.scope;
  declared : with_states (scope_of l.scope) (map state_of (drop l.state-index l.states)) ≡ with_states (scope_of l.initial.scope) (map state_of l.states);
  rest : first_from l.found.first (states_names (scope_of l.scope) (map state_of (drop l.state-index l.states))) ≡ first_from l.initial.found.first (states_names (scope_of l.initial.scope) (map state_of l.states));
}
