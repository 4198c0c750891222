-- Each fine declaration has a name that was not in sight, so that all are the first of their names.
use Rattle.std.proofs.Common.{◌≡◌, ℕ, List, [], ◌∷◌, Bool, true, cond, refl, ap, ◌∙◌}
use Rattle.rule_tests.specs.Tests.{IsFine}
use Rattle.p4_tree.specs.Tree.{Top, constant, typedef, header_type, struct_type, register, parser, control}
use Rattle.p4_scopes.specs.Scopes.{Scope, is_missing}
use Rattle.p4_declaration_rules.specs.Controls.{top_tests, after_top, tops_tests, after_tops}
use Rattle.p4_declaration_rules.specs.Firsts.{top_name, first_top, first_tops}
use Rattle.p4_declaration_rules.proofs.Seen.{not_false}

pub is_new : (main : List (List ℕ)) (s : Scope) (t : Top) → IsFine (top_tests main s t) → is_missing (s (top_name t ∷ [])) ≡ true
is_new main s (constant p t x e) f = not_false (is_missing (s (x ∷ []))) f.0
is_new main s (typedef p t x) f = not_false (is_missing (s (x ∷ []))) f.0
is_new main s (header_type p x fs) f = not_false (is_missing (s (x ∷ []))) f.0
is_new main s (struct_type p x fs) f = not_false (is_missing (s (x ∷ []))) f.0
is_new main s (register p r) f = not_false (is_missing (s (r.name ∷ []))) f.0
is_new main s (parser p d) f = not_false (is_missing (s (d.name ∷ []))) f.0
is_new main s (control p c) f = not_false (is_missing (s (c.name ∷ []))) f.0

pub first_if : (s : Scope) (t : Top) (b : Bool) → is_missing (s (top_name t ∷ [])) ≡ b → first_top s t ≡ cond b (after_top s t) s
first_if s t b e = ap (λ (m : Bool). cond m (after_top s t) s) e

pub all_first : (main : List (List ℕ)) (s : Scope) (ts : List Top) → IsFine (tops_tests main s ts) → first_tops s ts ≡ after_tops s ts
all_first main s [] f = refl
all_first main s (t ∷ ts) f = ap (λ u. first_tops u ts) (first_if s t true (is_new main s t f.0)) ∙ all_first main (after_top s t) ts f.1
