-- The counter's cells in their register.
use Rattle.std.proofs.Common.{◌≡◌, ℕ, zero, suc, ◌<◌, ◌^◌, List, [], ◌∷◌, map, length, get_or, slice_set, bit_xor, sym, ap, ◌∙◌, arith}
use Rattle.std.specs.List.{AllByRecursion}
use Rattle.std.specs.Int.Bits.{xor_self, xor_zero_r, xor_assoc}
use Rattle.std.proofs.lemmas.Nat.{pow_pos, xor_lt}
use Rattle.std.proofs.lemmas.List.{get_or-map, map-set}
use Rattle.bit_values.specs.Bits.{Word, word}
use Rattle.bit_values.specs.Widths.{sound_width, cast_word}
use Rattle.bit_values.proofs.BitsLemmas.{cast_of_small}
use Rattle.linkage.specs.Linkage.{xor_with}
use Rattle.p4_meaning.specs.Statements.{cell_at, cell_set}
use Rattle.sample_monitor.specs.Sample.{kept_cell}

-- what is turned twice is as it was
pub turned_twice : (n : ℕ) → xor_with 7 (xor_with 7 n) ≡ n
turned_twice n = xor_assoc n 7 7 ∙ ap (bit_xor n) (xor_self 7) ∙ xor_zero_r n

pub turned_low : (n : ℕ) → n < 2 ^ 8 → xor_with 7 n < 2 ^ 8
turned_low n low = xor_lt 8 n 7 low (omega arith)

-- a register's cell that is there
pub cell_is : (z : List ℕ) (i : ℕ) → i < length z → cell_at (map kept_cell z) i ≡ kept_cell (get_or z i 0)
cell_is z i inside = get_or-map kept_cell z i 0 _ inside

-- a cell is written
pub cell_set_is : (z : List ℕ) (i n : ℕ) (v : Word) → i < length z → n < 2 ^ 8 → v ≡ kept_cell n → cell_set (map kept_cell z) i v ≡ map kept_cell (slice_set z i n)
cell_set_is z i n v inside low is =
    ap (λ (u : Word). slice_set (map kept_cell z) i (cast_word (sound_width u.width) v)) (cell_is z i inside)
    ∙ ap (λ (u : Word). slice_set (map kept_cell z) i (cast_word 8 u)) is
    ∙ ap (λ m. slice_set (map kept_cell z) i (word 8 m)) (cast_of_small 8 (xor_with 7 n) (turned_low n low))
    ∙ sym (map-set kept_cell z i n)

-- cells stay low where a low one is written
pub set_low : (z : List ℕ) (i n : ℕ) → n < 2 ^ 8 → AllByRecursion (λ m. m < 2 ^ 8) z → AllByRecursion (λ m. m < 2 ^ 8) (slice_set z i n)
set_low [] i n low h = tt
set_low (m ∷ z) zero n low h = (low, h.1)
set_low (m ∷ z) (suc i) n low h = (h.0, set_low z i n low h.1)

pub get_low : (z : List ℕ) (i : ℕ) → AllByRecursion (λ m. m < 2 ^ 8) z → get_or z i 0 < 2 ^ 8
get_low [] i h = pow_pos 8
get_low (m ∷ z) zero h = h.0
get_low (m ∷ z) (suc i) h = get_low z i h.1
