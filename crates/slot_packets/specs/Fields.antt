-- Fields of a header in slots, one behind the other. Read `Terms` of `slot_terms` and `BitLists` of `bit_values` before it,
-- and `Headers` after it.
use Rattle.std.specs.Prelude.{ℕ, ◌+◌, ◌≤◌, List, [], ◌∷◌, ◌++◌, take, drop, slice_set}
use Rattle.bit_values.specs.BitLists.{number_bits, number_of}
use Rattle.slot_terms.specs.Terms.{number_in}

-- how many bits fields of these widths have
abbrev pub widths_sum : List ℕ → ℕ
widths_sum [] = 0
widths_sum (w ∷ ws) = w + widths_sum ws

-- numbers can have these widths
abbrev pub AreWidths : List ℕ → Type 0
AreWidths [] = Unit {0}
AreWidths (w ∷ ws) = ((1 ≤ w) × (w ≤ 128)) × AreWidths ws

-- the slots from one on get the numbers that the bits are, by their widths
abbrev pub take_fields : (widths : List ℕ) (first : ℕ) (bits : List ℕ) → List ℕ → List ℕ
take_fields [] i bits slots = slots
take_fields (w ∷ ws) i bits slots = take_fields ws (i + 1) (drop w bits) (slice_set slots i (number_of (take w bits)))

-- the bits of the slots from one on, by their widths
abbrev pub slot_bits : (widths : List ℕ) (first : ℕ) → List ℕ → List ℕ
slot_bits [] i slots = []
slot_bits (w ∷ ws) i slots = number_bits w (number_in slots i) ++ slot_bits ws (i + 1) slots
