-- What holds of each of a list's items. `Served` of `lowered_code` has what holds of two lists together.
use Rattle.std.proofs.Common.{List, [], ◌∷◌, ◌++◌, map}
use Rattle.std.specs.List.{AllByRecursion}

module _ {A : Type 0} where
  pub all_both :
      (P : A → Type 0) (xs ys : List A) → AllByRecursion P xs → AllByRecursion P ys → AllByRecursion P (xs ++ ys)
  all_both P [] ys h k = k
  all_both P (x ∷ xs) ys h k = (h.0, all_both P xs ys h.1 k)

  pub all_weaker :
      (P Q : A → Type 0) → ((x : A) → P x → Q x) → (xs : List A) → AllByRecursion P xs → AllByRecursion Q xs
  all_weaker P Q f [] h = tt
  all_weaker P Q f (x ∷ xs) h = (f x h.0, all_weaker P Q f xs h.1)

  pub all_given : (P : A → Type 0) → ((x : A) → P x) → (xs : List A) → AllByRecursion P xs
  all_given P f [] = tt
  all_given P f (x ∷ xs) = (f x, all_given P f xs)

pub all_unmapped :
    {A B : Type 0} (f : A → B) (P : B → Type 0) (xs : List A) → AllByRecursion P (map f xs) →
    AllByRecursion (λ x. P (f x)) xs
all_unmapped f P [] h = tt
all_unmapped f P (x ∷ xs) h = (h.0, all_unmapped f P xs h.1)
