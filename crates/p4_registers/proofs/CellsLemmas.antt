-- Cells that are 0.
use Rattle.std.proofs.Common.{◌≡◌, ℕ, zero, suc, ◌+◌, List, [], ◌∷◌, ◌++◌, refl, sym, ap, ◌∙◌, add-one}
use Rattle.bit_values.specs.Bits.{Word, word}
use Rattle.p4_meaning.specs.Pass.{zero_cells}

zero_more : (w n : ℕ) → zero_cells w n ++ word w 0 ∷ [] ≡ zero_cells w (suc n)
zero_more w zero = refl
zero_more w (suc n) = ap (λ l. word w 0 ∷ l) (zero_more w n)

-- one cell more
pub zero_cells_more : (w n : ℕ) (cells : List Word) → cells ≡ zero_cells w n → cells ++ word w 0 ∷ [] ≡ zero_cells w (n + 1)
zero_cells_more w n cells e = ap (λ l. l ++ word w 0 ∷ []) e ∙ zero_more w n ∙ ap (zero_cells w) (sym (add-one n))
