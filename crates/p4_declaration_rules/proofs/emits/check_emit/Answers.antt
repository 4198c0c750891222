use Rattle.std.proofs.Common.{ap, ◌∙◌, Bool}
use Rattle.rule_tests.specs.Tests.{test}
use Rattle.p4_statement_rules.specs.Ranks.{first_from}
use Rattle.p4_statement_rules.specs.declared.rule.ProgramRule.TheVariants.{NameTwice}
use Rattle.p4_declaration_rules.proofs.Emitted.{stood_before, path_added}
use Rattle.p4_declaration_rules.proofs.emits.check_emit.Goals as goal

pub returns-clause-found : goal.returns-clause-found
returns-clause-found c =
    c.test.ensures
    ∙ ap (λ (b : Bool). first_from c.args.found.now.first (test c.args.at NameTwice b))
    (stood_before c.args.emitted.now.keys c.insert.new.self.keys c.in_ok-path.path c.args.path.now c.in_ok-path.ensures c.in_ok-fresh.fresh c.in_ok-fresh.ensures.added)

pub returns-clause-emitted : goal.returns-clause-emitted
returns-clause-emitted c = path_added c.args.emitted.now.keys c.insert.new.self.keys c.in_ok-path.path c.args.path.now c.in_ok-path.ensures c.in_ok-fresh.ensures.keys
