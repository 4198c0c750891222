-- A deparser over slots: the numbers of the headers that are emitted, in order, and which bits that gives. Read `Fields` of
-- `slot_packets` before it and `HeaderSlots` of `slot_places`; `Emission` after it.
use Rattle.std.specs.Prelude.{ℕ, ◌+◌, List, [], ◌∷◌, ◌++◌, Option, Some, None, if◌then◌else◌, slice_get}
use Rattle.slot_terms.specs.States.{State}
use Rattle.slot_terms.specs.Terms.{valid_at}
use Rattle.slot_terms.specs.Places.{header_number}
use Rattle.slot_packets.specs.Fields.{slot_bits, widths_sum}
use Rattle.slot_places.specs.HeaderSlots.{HeaderSlots}

-- the bits of the header of a number, where it is valid
abbrev pub valid_bits : Option HeaderSlots → (number : ℕ) → State → List ℕ
valid_bits None n s = []
valid_bits (Some h) n s = if valid_at s.valid n then slot_bits h.widths h.first s.slots else []

-- how many bits the fields of a header have
abbrev pub header_width : Option HeaderSlots → ℕ
header_width None = 0
header_width (Some h) = widths_sum h.widths

module _ (headers : List HeaderSlots) where
  -- the bits of the valid headers among those of some numbers, in order
  abbrev pub emitted_bits : (numbers : List ℕ) → State → List ℕ
  emitted_bits [] s = []
  emitted_bits (n ∷ ns) s = valid_bits (slice_get headers n) n s ++ emitted_bits ns s

  -- how many bits these have at the most
  abbrev pub most_bits : (numbers : List ℕ) → ℕ
  most_bits [] = 0
  most_bits (n ∷ ns) = header_width (slice_get headers n) + most_bits ns

-- the numbers of the headers at paths; a path at which none is stands for nothing
abbrev pub with_number : Option ℕ → List ℕ → List ℕ
with_number None ns = ns
with_number (Some n) ns = n ∷ ns

abbrev pub numbers_of : (headers emits : List (List (List ℕ))) → List ℕ
numbers_of hs [] = []
numbers_of hs (p ∷ ps) = with_number (header_number hs p) (numbers_of hs ps)
