-- Lists with one item changed.
use Rattle.std.proofs.Common.{◌≡◌, ◌≢◌, ℕ, zero, suc, ◌<◌, List, [], ◌∷◌, length, get_or, set, map, Bool, true, Some, refl, ap, sym, ◌∙◌, subst, arith}
use Rattle.std.specs.Prelude.{slice_get}
use Rattle.std.specs.List.{list_all}
use Rattle.std.proofs.lemmas.List.{get_or-set_same, get_or-set_other}
use Rattle.std.proofs.lemmas.Bool.Decides.{nat_tests}
use Rattle.network_run.proofs.Numbers.{put_cases}
use Rattle.network_run.specs.NetworkRun.{put}

-- what stands at a place of a list whose one item is new
pub at_set : {X : Type 0} (Q : ℕ → X → Type 0) (xs : List X) (i : ℕ) (v : X) → Q i v → ((j : ℕ) (x : X) → j ≢ i → slice_get xs j ≡ Some x → Q j x) → (j : ℕ) (x : X) → slice_get (set xs i v) j ≡ Some x → Q j x
at_set Q [] i v new old j x e = absurd (cc)
at_set Q (y ∷ xs) zero v new old zero x e = let q : v ≡ x = (cc) in subst (λ z. Q zero z) q new
at_set Q (y ∷ xs) zero v new old (suc j) x e = old (suc j) x (λ h. omega (arith, h)) e
at_set Q (y ∷ xs) (suc i) v new old zero x e = old zero x (λ h. omega (arith, h)) e
at_set Q (y ∷ xs) (suc i) v new old (suc j) x e = at_set (λ k z. Q (suc k) z) xs i v new (λ k z n h. old (suc k) z (λ q. n (omega (arith, q))) h) j x e

pub get_set_other : {X : Type 0} (xs : List X) (i j : ℕ) (v : X) → j ≢ i → slice_get (set xs i v) j ≡ slice_get xs j
get_set_other [] i j v other = refl
get_set_other (x ∷ xs) zero zero v other = absurd (other refl)
get_set_other (x ∷ xs) zero (suc j) v other = refl
get_set_other (x ∷ xs) (suc i) zero v other = refl
get_set_other (x ∷ xs) (suc i) (suc j) v other = get_set_other xs i j v (λ q. other (ap suc q))

-- a function that is the list's items, with one changed
pub put_item : {X : Type 0} (f : ℕ → X) (xs : List X) (i : ℕ) (v d : X) → i < length xs → ((j : ℕ) → f j ≡ get_or xs j d) → (j : ℕ) → put f i v j ≡ get_or (set xs i v) j d
put_item f xs i v d h same j =
    put_cases (λ k u. u ≡ get_or (set xs i v) k d) f i v j
    (λ e. subst (λ k. v ≡ get_or (set xs i v) k d) (sym e) (sym (get_or-set_same xs i v d h)))
    (λ other. same j ∙ sym (get_or-set_other xs i j v d other))

-- f of the items is the same where it is of the new one
pub map_same : {X Y : Type 0} (f : X → Y) (xs : List X) (i : ℕ) (x y : X) → slice_get xs i ≡ Some x → f y ≡ f x → map f (set xs i y) ≡ map f xs
map_same f [] i x y at same = refl
map_same f (z ∷ xs) zero x y at same = let e : z ≡ x = (cc) in ap (λ u. u ∷ map f xs) (same ∙ ap f (sym e))
map_same f (z ∷ xs) (suc i) x y at same = ap (λ us. f z ∷ us) (map_same f xs i x y at same)

-- an item that stands there already
pub set_same : {X : Type 0} (xs : List X) (i : ℕ) (x : X) → slice_get xs i ≡ Some x → set xs i x ≡ xs
set_same [] i x at = refl
set_same (y ∷ ys) zero x at = let e : y ≡ x = (cc) in ap (λ z. z ∷ ys) (sym e)
set_same (y ∷ ys) (suc i) x at = ap (λ zs. y ∷ zs) (set_same ys i x at)

-- a test that all items pass
pub passes_at : {X : Type 0} (test : X → Bool) (xs : List X) (i : ℕ) (d : X) → i < length xs → list_all test xs ≡ true → test (get_or xs i d) ≡ true
passes_at test [] i d h all = absurd (omega (arith, h))
passes_at test (x ∷ xs) zero d h all = grind (arith, nat_tests)
passes_at test (x ∷ xs) (suc i) d h all = passes_at test xs i d (omega (arith, h)) (grind (arith, nat_tests))

pub all_pass : {X : Type 0} (test : X → Bool) (xs : List X) (i : ℕ) (v : X) → list_all test xs ≡ true → test v ≡ true → list_all test (set xs i v) ≡ true
all_pass test [] i v all new = refl
all_pass test (x ∷ xs) zero v all new = grind (arith, nat_tests)
all_pass test (x ∷ xs) (suc i) v all new =
    let rest : list_all test (set xs i v) ≡ true = all_pass test xs i v (grind (arith, nat_tests)) new in grind (arith, nat_tests)
