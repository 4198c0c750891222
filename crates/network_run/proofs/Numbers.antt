-- Functions on numbers with one value changed.
use Rattle.std.proofs.Common.{◌≡◌, ◌≢◌, ℕ, Bool, true, false, refl, ap, sym, inl, inr}
use Rattle.std.specs.Prelude.{if◌then◌else◌, nat_eq}
use Rattle.std.proofs.lemmas.Bool.{eqb-true, eq-eqb}
use Rattle.std.proofs.lemmas.Bool.Decides.{eqb_tells}
use Rattle.network_run.specs.NetworkRun.{put}

pub nat_eq_self : (i : ℕ) → nat_eq i i ≡ true
nat_eq_self i = eq-eqb i i refl

pub nat_eq_other : (i j : ℕ) → i ≢ j → nat_eq i j ≡ false
nat_eq_other i j n = elim (eqb_tells i j) [ inl h ↦ absurd (n h.1) | inr h ↦ h.0 ]

module _ {A : Type 0} where
  -- what holds of the new value at its number, and of the old ones at any number, holds after
  pub put_one : (P : ℕ → A → Type 0) (f : ℕ → A) (i : ℕ) (v : A) → ((j : ℕ) → (j ≡ i → P j v) × P j (f j)) → (j : ℕ) → P j (put f i v j)
  put_one P f i v h j =
      let go : (b : Bool) → nat_eq j i ≡ b → P j (if b then v else f j) =
      λ b. elim b as (λ b. nat_eq j i ≡ b → P j (if b then v else f j)) [ true ↦ λ e. (h j).0 (eqb-true j i e) | false ↦ λ e. (h j).1 ] in
      go (nat_eq j i) refl

  -- the same, where the other numbers are known to be others
  pub put_cases : (P : ℕ → A → Type 0) (f : ℕ → A) (i : ℕ) (v : A) (j : ℕ) → (j ≡ i → P j v) → (j ≢ i → P j (f j)) → P j (put f i v j)
  put_cases P f i v j here there =
      elim (eqb_tells j i) [
        | inl h ↦ rw h.0 (here h.1)
        | inr h ↦ rw h.0 (there h.1)
      ]

  pub put_same : (f : ℕ → A) (i : ℕ) (v : A) → put f i v i ≡ v
  put_same f i v = rw (nat_eq_self i)

  pub put_self : (f : ℕ → A) (i j : ℕ) → put f i (f i) j ≡ f j
  put_self f i j = put_one (λ j v. v ≡ f j) f i (f i) (λ j. (λ e. ap f (sym e), refl)) j

-- four functions with a value changed at one number
module _ {A B D E : Type 0} where
  pub put_four : (P : ℕ → A → B → D → E → Type 0) (f : ℕ → A) (g : ℕ → B) (h : ℕ → D) (k : ℕ → E) (i : ℕ) (a : A) (b : B) (d : D) (e : E) → ((j : ℕ) → j ≡ i → P j a b d e) → ((j : ℕ) → P j (f j) (g j) (h j) (k j)) → (j : ℕ) → P j (put f i a j) (put g i b j) (put h i d j) (put k i e j)
  put_four P f g h k i a b d e new old j =
      let go : (t : Bool) → nat_eq j i ≡ t → P j (if t then a else f j) (if t then b else g j) (if t then d else h j) (if t then e else k j) =
      λ t. elim t as (λ t. nat_eq j i ≡ t → P j (if t then a else f j) (if t then b else g j) (if t then d else h j) (if t then e else k j)) [ true ↦ λ q. new j (eqb-true j i q) | false ↦ λ q. old j ] in
      go (nat_eq j i) refl
