-- Lists on which two functions give the same.
use Rattle.std.proofs.Common.{◌≡◌, ℕ, ◌+◌, List, [], ◌∷◌, ◌++◌, map, Bool, cond, ◌==◌, refl, arith}
use Rattle.std.specs.List.{filter, AllByRecursion}
use Rattle.std.proofs.lemmas.List.Sums.{sum_by-append}
use Rattle.network_run.specs.Network.{times}

module _ {X : Type 0} where
  pub filter_same : (p q : X → Bool) (xs : List X) → AllByRecursion (λ x. p x ≡ q x) xs → filter p xs ≡ filter q xs
  filter_same p q [] h = refl
  filter_same p q (x ∷ xs) h = rw (h.0, filter_same p q xs h.1)

  pub map_same : {Y : Type 0} (f g : X → Y) (xs : List X) → AllByRecursion (λ x. f x ≡ g x) xs → map f xs ≡ map g xs
  map_same f g [] h = refl
  map_same f g (x ∷ xs) h = rw (h.0, map_same f g xs h.1)

  pub all_and : (P : X → Type 0) (Q : X → Type 0) (xs : List X) → ((x : X) → P x → Q x) → AllByRecursion P xs → AllByRecursion Q xs
  all_and P Q [] f h = tt
  all_and P Q (x ∷ xs) f h = (f x h.0, all_and P Q xs f h.1)

  pub all_one_more : (P : X → Type 0) (xs : List X) (y : X) → AllByRecursion P xs → P y → AllByRecursion P (xs ++ y ∷ [])
  all_one_more P [] y h p = (p, tt)
  all_one_more P (x ∷ xs) y h p = (h.0, all_one_more P xs y h.1 p)

pub times_append : (j : ℕ) (xs ys : List ℕ) → times j (xs ++ ys) ≡ times j xs + times j ys
times_append j xs ys = sum_by-append (λ k. cond (k == j) 1 0) xs ys

pub times_both : (j k : ℕ) (xs ys zs : List ℕ) → times j ys ≡ times j xs + k → times j (ys ++ zs) ≡ times j (xs ++ zs) + k
times_both j k xs ys zs h = omega (arith, times_append j xs zs, times_append j ys zs, h)
