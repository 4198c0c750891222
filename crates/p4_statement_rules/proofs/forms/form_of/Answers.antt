use Rattle.std.proofs.Common.{sym, ap, ◌∙◌, List, ℕ}
use Rattle.p4_scopes.specs.Scopes.{Stands}
use Rattle.p4_scopes.specs.View.{scope_of, stands_of}
use Rattle.p4_statement_rules.specs.Forms.{verb_form, form_of}
use Rattle.p4_statement_rules.proofs.Verbs.{verb_at}
use Rattle.p4_statement_rules.proofs.forms.form_of.Goals as goal

pub returns-in-Some : goal.returns-in-Some
returns-in-Some c =
    c.verb_form.ensures ∙ ap (λ (v : List ℕ). verb_form (stands_of c.find-in-Some.result) v) c.as_str.ensures ∙ ap (λ (s : Stands). verb_form s c.in-Some.verb.now) c.find-in-Some.ensures
    ∙ sym (verb_at (scope_of c.args.scope.now) c.in-Some.front.now c.in-Some.verb.now c.in-Some.len_at_least)
    ∙ ap (form_of (scope_of c.args.scope.now)) (sym c.in-Some.ensures.cases.0)
