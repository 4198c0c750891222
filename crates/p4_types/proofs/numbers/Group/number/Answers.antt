use Rattle.std.proofs.Common.{List, ℕ, sym, ap, ◌∙◌}
use Rattle.p4_types.specs.Kept.{behind, at_rest}
use Rattle.p4_types.proofs.Numbered.{stripped, not_stripped}
use Rattle.p4_types.proofs.numbers.Group.number.Goals as goal

pub returns-in-Some : goal.returns-in-Some
returns-in-Some c =
    c.copied.ensures ∙ c.get.ensures.value
    ∙ ap (at_rest c.args.self.now.numbers.entries) (sym (stripped c.as_str.result.now c.args.name.now c.in-Some.rest.now c.in-Some.ensures.cases) ∙ ap (λ (f : List ℕ). behind f c.args.name.now) c.as_str.ensures.value)

pub returns-in-None : goal.returns-in-None
returns-in-None c =
    ap (at_rest c.args.self.now.numbers.entries) (sym (not_stripped c.as_str.result.now c.args.name.now c.in-None.ensures.cases) ∙ ap (λ (f : List ℕ). behind f c.args.name.now) c.as_str.ensures.value)
