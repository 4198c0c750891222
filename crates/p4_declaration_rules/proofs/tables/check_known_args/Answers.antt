use Rattle.std.proofs.Common.{sym, ap, ◌∙◌, drop, map}
use Rattle.std.proofs.lemmas.List.{drop_all}
use Rattle.rule_tests.specs.Tests.{Tests}
use Rattle.p4_tree.specs.View.{expr_of}
use Rattle.p4_scopes.specs.View.{scope_of}
use Rattle.p4_statement_rules.specs.Ranks.{first_from}
use Rattle.p4_declaration_rules.specs.Tables.{known_args}
use Rattle.p4_statement_rules.specs.declared.rule.ProgramRule.{ProgramRule}
use Rattle.p4_declaration_rules.proofs.Keys.{no_known_args}
use Rattle.p4_declaration_rules.proofs.tables.check_known_args.Goals as goal

pub returns-in-None : goal.returns-in-None
returns-in-None c =
    sym
    (ap (λ xs. first_from c.loop-i.found.first (known_args (scope_of c.args.scope.now) (drop c.loop-i.i c.args.kinds.now) (map expr_of xs))) (drop_all c.loop-i.i c.args.args.now c.in-None.ensures.lookup.3)
    ∙ ap (λ (t : Tests ProgramRule). first_from c.loop-i.found.first t) (no_known_args (scope_of c.args.scope.now) (drop c.loop-i.i c.args.kinds.now)))
    ∙ c.loop-i.invariant
