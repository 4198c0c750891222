-- Two lists that are walked together, of which one ends first.
use Rattle.std.proofs.Common.{◌≡◌, ℕ, zero, suc, ◌<◌, List, [], ◌∷◌, length, drop, false, refl, arith}
use Rattle.bit_values.specs.Bits.{Word}
use Rattle.value_shapes.specs.declared.values.ValueShape.{ValueShape}
use Rattle.table_shapes.specs.Shapes.{have_widths}

-- values are left, and no words
pub no_words : (vs : List ValueShape) (i : ℕ) → i < length vs → have_widths (drop i vs) [] ≡ false
no_words [] i lt = absurd (omega arith)
no_words (v ∷ vs) zero lt = refl
no_words (v ∷ vs) (suc i) lt = no_words vs i (omega arith)

-- words are left, and no values
pub no_values : (ws : List Word) (i : ℕ) → i < length ws → have_widths [] (drop i ws) ≡ false
no_values [] i lt = absurd (omega arith)
no_values (w ∷ ws) zero lt = refl
no_values (w ∷ ws) (suc i) lt = no_values ws i (omega arith)
