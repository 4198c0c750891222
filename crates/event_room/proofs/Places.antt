-- A list with one item changed.
use Rattle.std.proofs.Common.{◌≡◌, ◌≢◌, ℕ, zero, suc, List, [], ◌∷◌, set, Some, subst, arith}
use Rattle.std.specs.Prelude.{slice_get}

-- what stands at a place of a list whose one item is new
pub at_set : {X : Type 0} (Q : ℕ → X → Type 0) (xs : List X) (i : ℕ) (v : X) → Q i v → ((j : ℕ) (x : X) → j ≢ i → slice_get xs j ≡ Some x → Q j x) → (j : ℕ) (x : X) → slice_get (set xs i v) j ≡ Some x → Q j x
at_set Q [] i v new old j x e = absurd (cc)
at_set Q (y ∷ xs) zero v new old zero x e = let q : v ≡ x = (cc) in subst (λ z. Q zero z) q new
at_set Q (y ∷ xs) zero v new old (suc j) x e = old (suc j) x (λ h. omega (arith, h)) e
at_set Q (y ∷ xs) (suc i) v new old zero x e = old zero x (λ h. omega (arith, h)) e
at_set Q (y ∷ xs) (suc i) v new old (suc j) x e = at_set (λ k z. Q (suc k) z) xs i v new (λ k z n h. old (suc k) z (λ q. n (omega (arith, q))) h) j x e
