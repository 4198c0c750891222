use Rattle.std.proofs.Common.{List, ℕ, sym, ap, ◌∙◌}
use Rattle.lex_text.specs.Names.{parent}
use Rattle.p4_scopes.specs.Uses.{most_in}
use Rattle.p4_scopes.specs.View.{scope_of}
use Rattle.p4_statement_rules.proofs.Verbs.{parent_front}
use Rattle.p4_declaration_rules.proofs.digests.most_of_rows.Goals as goal

pub returns-in-Some : goal.returns-in-Some
returns-in-Some c =
    c.most-in-Some.ensures ∙ ap most_in c.find-in-Some.ensures
    ∙ sym (ap (λ (x : List (List ℕ)). most_in (scope_of c.args.scope.now (parent x))) c.in-Some.ensures.cases.0
    ∙ ap (λ (x : List (List ℕ)). most_in (scope_of c.args.scope.now x)) (parent_front c.in-Some.front.now c.in-Some.field-0-0.now))
