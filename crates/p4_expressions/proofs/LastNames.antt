-- The last name of a path and those before it.
use Rattle.std.proofs.Common.{◌≡◌, ℕ, suc, ◌-◌, ◌≤◌, Bool, false, List, [], ◌∷◌, ◌++◌, length, Some, refl, sym, ap, ◌∙◌, arith}
use Rattle.std.proofs.lemmas.Bool.{le-ltb}
use Rattle.std.specs.Prelude.{slice_get, nat_lt}
use Rattle.lex_text.specs.Names.{parent}
use Rattle.p4_expressions.specs.Reading.{last_of, calls, is_called}

pub last_of-append : (xs : List (List ℕ)) (x : List ℕ) → last_of (xs ++ x ∷ []) ≡ Some x
last_of-append [] x = refl
last_of-append (y ∷ []) x = refl
last_of-append (y ∷ z ∷ xs) x = last_of-append (z ∷ xs) x

pub parent-append : (xs : List (List ℕ)) (x : List ℕ) → parent (xs ++ x ∷ []) ≡ xs
parent-append [] x = refl
parent-append (y ∷ []) x = refl
parent-append (y ∷ z ∷ xs) x = ap (λ r. y ∷ r) (parent-append (z ∷ xs) x)

-- of a path whose last name is taken off
pub last_is : (ps xs : List (List ℕ)) (x : List ℕ) → ps ≡ xs ++ x ∷ [] → last_of ps ≡ Some x
last_is ps xs x e = ap last_of e ∙ last_of-append xs x

pub parent_is : (ps xs : List (List ℕ)) (x : List ℕ) → ps ≡ xs ++ x ∷ [] → parent ps ≡ xs
parent_is ps xs x e = ap parent e ∙ parent-append xs x

-- the last name stands at the last place
pub last_of_get : (xs : List (List ℕ)) → last_of xs ≡ slice_get xs (length xs - 1)
last_of_get [] = refl
last_of_get (x ∷ []) = refl
last_of_get (x ∷ y ∷ xs) =
    let e : length (x ∷ y ∷ xs) - 1 ≡ suc (length xs) = omega arith in
    let f : length (y ∷ xs) - 1 ≡ length xs = omega arith in
    last_of_get (y ∷ xs) ∙ ap (slice_get (y ∷ xs)) f ∙ sym (ap (slice_get (x ∷ y ∷ xs)) e)

-- the answer of code that asks the last of n names
pub called_is : (xs : List (List ℕ)) (n : ℕ) (x : List ℕ) (b : Bool) → n ≡ length xs → 2 ≤ n → slice_get xs (n - 1) ≡ Some x → b ≡ calls n (Some x) → b ≡ is_called xs
called_is xs n x b e le w is =
    let t : nat_lt (length xs) 2 ≡ false = le-ltb (length xs) 2 (omega (arith, e, le)) in
    let f : last_of xs ≡ Some x = last_of_get xs ∙ ap (λ k. slice_get xs (k - 1)) (sym e) ∙ w in
    is ∙ rw (t, f) (ap (λ k. calls k (Some x)) e)

pub ruleset last_names = (last_is, parent_is)
