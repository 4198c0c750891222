use Rattle.std.proofs.Common.{sym, ap, ◌∙◌, List, map}
use Rattle.rule_tests.specs.Tests.{Tests}
use Rattle.p4_tree.specs.View.{keyset_of}
use Rattle.p4_scopes.specs.View.{scope_of}
use Rattle.p4_scopes.specs.declared.kind.Kind.{Kind}
use Rattle.p4_statement_rules.specs.Ranks.{first_from}
use Rattle.p4_statement_rules.specs.declared.rule.ProgramRule.{ProgramRule}
use Rattle.p4_declaration_rules.specs.Loops.{all_wanted}
use Rattle.p4_declaration_rules.proofs.Keys.{each_fits}
use Rattle.p4_declaration_rules.proofs.transitions.check_keysets.Goals as goal

pub returns : goal.returns
returns c = λ es h.
    let keys = map keyset_of c.args.keys.now in
    let s = scope_of c.args.scope.now in
    c.in_ok-check_all.ensures
    ∙ ap (λ (ks : List Kind). first_from c.args.found.now.first (all_wanted c.args.at s ks keys)) h
    ∙ ap (λ (t : Tests ProgramRule). first_from c.args.found.now.first t) (sym (each_fits c.args.at s es keys (sym c.is_default.ensures ∙ c.if-is_default.false)))
