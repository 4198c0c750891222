use Rattle.std.proofs.Common.{◌≡◌, [], drop}
use Rattle.p4_tree.specs.View.{stmts_of}
use Rattle.p4_scopes.specs.View.{scope_of}
use Rattle.p4_statement_rules.specs.Ranks.{first_from}
use Rattle.p4_declaration_rules.specs.Controls.{emits_tests}
use Rattle.p4_declaration_rules.specs.Loops.{paths_in}
use Rattle.p4_declaration_rules.proofs.emits.check_emits.Given as goal

abbrev pub invariant-loop-s : goal.invariant-loop-s
invariant-loop-s l = first_from l.found.first (emits_tests (scope_of l.scope) (paths_in l.emitted.keys) (stmts_of (drop l.s-index l.body))) ≡ first_from l.initial.found.first (emits_tests (scope_of l.scope) [] (stmts_of l.body))
