-- The parts of a path as parts of a list.
use Rattle.std.proofs.Common.{◌≡◌, ℕ, suc, ◌-◌, List, [], ◌∷◌, length, take, refl, ap, ◌∙◌, arith}
use Rattle.lex_text.specs.Names.{parent}

pub parent_taken : (p : List (List ℕ)) → take (length p - 1) p ≡ parent p
parent_taken [] = refl
parent_taken (x ∷ []) = refl
parent_taken (x ∷ y ∷ rest) =
    let n : length (x ∷ y ∷ rest) - 1 ≡ suc (length (y ∷ rest) - 1) = omega arith in
    ap (λ n. take n (x ∷ y ∷ rest)) n ∙ ap (λ l. x ∷ l) (parent_taken (y ∷ rest))
