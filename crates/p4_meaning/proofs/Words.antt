-- Words that are cut to a sound width are words, and keep what fits.
use Rattle.std.proofs.Common.{◌≡◌, ℕ, zero, suc, ◌<◌, ◌≤◌, ◌^◌, pow_pos, ap, ◌∙◌, arith}
use Rattle.std.proofs.lemmas.Bool.Decides.{nat_tests}
use Rattle.std.proofs.Math.Nat.{mod-eq_of_lt, mod-lt}
use Rattle.bit_values.specs.Bits.{Word, IsWord, word, cast}
use Rattle.bit_values.specs.Widths.{either_width, sound_width, cast_word}

pub sound : (w : ℕ) → 1 ≤ w → w ≤ 128 → sound_width w ≡ w
sound zero h k = absurd (omega arith)
sound (suc w) h k = grind (arith, nat_tests)

pub sound_wide : (w : ℕ) → 1 ≤ sound_width w
sound_wide zero = omega arith
sound_wide (suc w) = grind (arith, nat_tests)

pub sound_narrow : (w : ℕ) → sound_width w ≤ 128
sound_narrow zero = omega arith
sound_narrow (suc w) = grind (arith, nat_tests)

-- a number with a written width is that word, whatever its place gives
pub number_word : (width value v : ℕ) → 1 ≤ width → width ≤ 128 → value < 2 ^ width → word (sound_width (either_width width v)) (cast (sound_width (either_width width v)) value) ≡ word width value
number_word zero value v a b c = absurd (omega arith)
number_word (suc k) value v a b c =
    ap (λ n. word n (cast n value)) (sound (suc k) a b) ∙ ap (word (suc k)) (mod-eq_of_lt c)

pub cast_is_word : (n : ℕ) (v : Word) → IsWord (cast_word (sound_width n) v)
cast_is_word n v = record { wide = sound_wide n; narrow = sound_narrow n; in_range = mod-lt v.value (pow_pos (sound_width n)) }
