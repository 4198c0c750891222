-- Widths of places.
use Rattle.std.proofs.Common.{ℕ, zero, suc, ◌≤◌, arith, refl}
use Rattle.std.proofs.lemmas.Bool.Decides.{nat_tests}
use Rattle.bit_values.specs.Widths.{sound_width}
use Rattle.bit_values.specs.Operators.{Class, like, shift, joined, compare, logic, left_place, right_place}
use Rattle.slot_terms.specs.Nodes.{AreAlikeWidths}

pub sound_wide : (n : ℕ) → 1 ≤ sound_width n
sound_wide zero = omega arith
sound_wide (suc n) = grind (arith, nat_tests)

pub sound_narrow : (n : ℕ) → sound_width n ≤ 128
sound_narrow zero = omega arith
sound_narrow (suc n) = grind (arith, nat_tests)

-- operands in their places have one width, where the operator wants one
pub places_alike : (k : Class) (v u w : ℕ) → AreAlikeWidths k (sound_width (left_place k v u w)) (sound_width (right_place k v u w))
places_alike like v u w = refl
places_alike shift v u w = tt
places_alike joined v u w = tt
places_alike compare v u w = tt
places_alike logic v u w = tt
