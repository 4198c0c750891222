-- A path of two names or more is its parent and its last name.
use Rattle.std.proofs.Common.{◌≡◌, ℕ, List, [], ◌∷◌, ◌++◌, ◌≤◌, length, refl, ap, ◌∙◌, arith}
use Rattle.lex_text.specs.Names.{parent, last_name}
use Rattle.p4_scopes.specs.Scopes.{Scope}
use Rattle.p4_statement_rules.specs.Forms.{form_of, verb_form}

parent_of : (y : List ℕ) (ys : List (List ℕ)) (x : List ℕ) → parent (y ∷ (ys ++ x ∷ [])) ≡ y ∷ ys
parent_of y [] x = refl
parent_of y (z ∷ zs) x = ap (λ (p : List (List ℕ)). y ∷ p) (parent_of z zs x)

last_of : (y : List ℕ) (ys : List (List ℕ)) (x : List ℕ) → last_name (y ∷ (ys ++ x ∷ [])) ≡ x
last_of y [] x = refl
last_of y (z ∷ zs) x = last_of z zs x

-- the parent of one name more is what stood before
pub parent_front : (front : List (List ℕ)) (x : List ℕ) → parent (front ++ x ∷ []) ≡ front
parent_front [] x = refl
parent_front (y ∷ ys) x = parent_of y ys x

some_verb : (s : Scope) (y : List ℕ) (ys : List (List ℕ)) (x : List ℕ) → form_of s (y ∷ (ys ++ x ∷ [])) ≡ verb_form (s (y ∷ ys)) x
some_verb s y [] x = refl
some_verb s y (z ∷ zs) x =
    let front : parent (y ∷ z ∷ (zs ++ x ∷ [])) ≡ y ∷ z ∷ zs = parent_of y (z ∷ zs) x in
    let last : last_name (y ∷ z ∷ (zs ++ x ∷ [])) ≡ x = last_of y (z ∷ zs) x in
    ap (λ (p : List (List ℕ)). verb_form (s p) (last_name (y ∷ z ∷ (zs ++ x ∷ [])))) front ∙ ap (λ (v : List ℕ). verb_form (s (y ∷ z ∷ zs)) v) last

-- a call on what stands at the names before the last one
pub verb_at : (s : Scope) (front : List (List ℕ)) (x : List ℕ) → 1 ≤ length front → form_of s (front ++ x ∷ []) ≡ verb_form (s front) x
verb_at s [] x h = absurd (omega arith)
verb_at s (y ∷ ys) x h = some_verb s y ys x
