use Rattle.std.proofs.Common.{◌≡◌, codes, ℕ, List, Bool, true, ◌∷◌, IfOk, if◌then◌else◌, sym, ap, subst, ◌∙◌}
use Rattle.lex_text.specs.Names.{same_text}
use Rattle.p4_scopes.specs.Scopes.{missing}
use Rattle.p4_scopes.specs.View.{scope_of, stands_of}
use Rattle.link_checks.proofs.fields.standard_field.Goals as goal

pub returns-then-same_text : goal.returns-then-same_text
returns-then-same_text c =
    let is : true ≡ same_text c.args.root.now (codes "standard_metadata") =
    sym c.if-same_text.true ∙ (c.same_text.ensures ∙ ap (λ (x : List ℕ). same_text x (codes "standard_metadata")) c.as_str.ensures) in
    subst (λ (b : Bool). IfOk c.found_in.result (λ st. stands_of st ≡ if b then scope_of c.args.scope.now (codes "standard_metadata_t" ∷ c.args.path.now) else missing)) is c.found_in.ensures
