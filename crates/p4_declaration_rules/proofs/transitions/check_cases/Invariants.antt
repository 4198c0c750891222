use Rattle.std.proofs.Common.{◌≡◌, List, drop, map}
use Rattle.p4_tree.specs.Tree.{Expr}
use Rattle.p4_tree.specs.View.{case_of}
use Rattle.p4_scopes.specs.View.{scope_of}
use Rattle.p4_statement_rules.specs.Ranks.{first_from}
use Rattle.p4_declaration_rules.specs.Parsers.{is_state_name, cases_tests}
use Rattle.p4_declaration_rules.specs.Loops.{named, wanted_kinds}
use Rattle.p4_declaration_rules.proofs.transitions.check_cases.Given as goal

abbrev pub invariant-loop-case : goal.invariant-loop-case
invariant-loop-case l = (es : List Expr) → l.wants ≡ wanted_kinds (scope_of l.scope) es → first_from l.found.first (cases_tests (is_state_name (named l.names.keys)) l.at (scope_of l.scope) es (map case_of (drop l.case-index l.cases))) ≡ first_from l.initial.found.first (cases_tests (is_state_name (named l.names.keys)) l.at (scope_of l.scope) es (map case_of l.cases))
