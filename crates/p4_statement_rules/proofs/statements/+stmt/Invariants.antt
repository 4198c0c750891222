use Rattle.std.proofs.Common.{◌≡◌, ◌≤◌, drop, take, length}
use Rattle.p4_tree.specs.View.{stmts_of}
use Rattle.p4_scopes.specs.View.{scope_of}
use Rattle.p4_statement_rules.specs.Ranks.{first_from}
use Rattle.p4_statement_rules.specs.Statements.{block_tests}
use Rattle.p4_statement_rules.proofs.statements.+stmt.Given as goal

abbrev pub invariant-check_block-loop-s : goal.invariant-check_block-loop-s
invariant-check_block-loop-s l = record {
  kept : take l.before l.scope ≡ l.initial.scope;
  size : l.before ≡ length l.initial.scope;
  longer : l.before ≤ length l.scope;
  rest : first_from l.found.first (block_tests l.part (scope_of l.scope) (stmts_of (drop l.s-index l.body))) ≡ first_from l.initial.found.first (block_tests l.part (scope_of l.initial.scope) (stmts_of l.body));
}
