use Rattle.std.proofs.Common.{◌≡◌, List, drop, map}
use Rattle.p4_tree.specs.Tree.{ParserState}
use Rattle.p4_tree.specs.View.{state_of}
use Rattle.p4_scopes.specs.View.{scope_of}
use Rattle.p4_statement_rules.specs.Ranks.{first_from}
use Rattle.p4_parser_states.specs.Cycles.{is_on_cycle}
use Rattle.p4_declaration_rules.specs.Parsers.{states_tests}
use Rattle.p4_declaration_rules.specs.Loops.{IsNameTable}
use Rattle.p4_declaration_rules.proofs.parsers.check_each.Given as goal

abbrev pub invariant-loop-i : goal.invariant-loop-i
invariant-loop-i l = record {
  kept : l.scope ≡ l.initial.scope;
  rest : (all : List ParserState) → IsNameTable l.names.keys all → l.cyclic ≡ map (is_on_cycle all) (map state_of l.states) → first_from l.found.first (states_tests all (scope_of l.initial.scope) (map state_of (drop l.i l.states))) ≡ first_from l.initial.found.first (states_tests all (scope_of l.initial.scope) (map state_of l.states));
}
