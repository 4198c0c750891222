-- A path as it is written: its first name, and then each other behind a point.
use Rattle.std.proofs.Common.{◌≡◌, ℕ, List, [], ◌∷◌, ◌++◌, refl, ap, ◌∙◌}
use Rattle.std.proofs.lemmas.List.{append-nil}
use Rattle.link_faults.specs.HeaderFields.{dotted}

abbrev pub tail_of : List (List ℕ) → List ℕ
tail_of [] = []
tail_of (x ∷ xs) = 46 ∷ (x ++ tail_of xs)

pub dotted_tail : (x : List ℕ) (xs : List (List ℕ)) → x ++ tail_of xs ≡ dotted (x ∷ xs)
dotted_tail x [] = append-nil x
dotted_tail x (y ∷ ys) = ap (λ t. x ++ 46 ∷ t) (dotted_tail y ys)
