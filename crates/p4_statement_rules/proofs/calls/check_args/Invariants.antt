use Rattle.std.proofs.Common.{◌≡◌, drop, map}
use Rattle.p4_tree.specs.View.{arg_of}
use Rattle.p4_scopes.specs.View.{scope_of}
use Rattle.p4_statement_rules.specs.Ranks.{first_from}
use Rattle.p4_statement_rules.specs.Calls.{args_tests}
use Rattle.p4_statement_rules.proofs.calls.check_args.Given as goal

abbrev pub invariant-loop-i : goal.invariant-loop-i
invariant-loop-i l = first_from l.found.first (args_tests (scope_of l.scope) (drop l.i l.kinds) (map arg_of (drop l.i l.args))) ≡ first_from l.initial.found.first (args_tests (scope_of l.scope) l.kinds (map arg_of l.args))
