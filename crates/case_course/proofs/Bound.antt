-- Readers one behind the other, of which all gave something.
use Rattle.std.proofs.Common.{◌≡◌, ℕ, ◌+◌, List, [], ◌∷◌, Result, Ok, Err, refl, subst}
use Rattle.json_parts.specs.Answers.{◌>>=◌}
use Rattle.json_parts.specs.Turns.{in_turn}

-- what the first gave, from which the next gave the whole
pub bound : {E A B : Type 0} (r : Result A E) (next : A → Result B E) (y : B) → (r >>= next) ≡ Ok y → (x : A) × (r ≡ Ok x) × (next x ≡ Ok y)
bound (Ok x) next y h = (x, refl, h)
bound (Err e) next y h = absurd cc

-- what each item keeps holds behind all
module _ {E S A : Type 0} (step : S → ℕ → A → Result S E) (P : S → Type 0) (each : (s t : S) (i : ℕ) (x : A) → P s → step s i x ≡ Ok t → P t) where
  pub turns_keep : (s t : S) (i : ℕ) (xs : List A) → P s → in_turn step s i xs ≡ Ok t → P t
  unfolding in_turn
  turns_keep s t i [] h e = let is : s ≡ t = cc in subst P is h
  turns_keep s t i (x ∷ xs) h e =
      let one = bound (step s i x) (λ more. in_turn step more (i + 1) xs) t e in
      turns_keep one.0 t (i + 1) xs (each s one.0 i x h one.1) one.2
