-- What values bits hold, where they hold any.
use Rattle.std.specs.Prelude.{ℕ, zero, suc, ◌-◌, ◌*◌, List, [], ◌∷◌, ◌++◌, take, drop, Bool, true, ◌&&◌, nat_eq, nat_le, if◌then◌else◌, Option, Some, None}
use Rattle.std.specs.Option.{option_map}
use Rattle.bit_values.specs.Bits.{Word, word}
use Rattle.bit_values.specs.BitLists.{number_of}
use Rattle.indus_values.specs.View.{Cells, cells_of}
use Rattle.tele_layout.specs.Layouts.{slot_length}
use Rattle.tele_layout.specs.declared.slots.Slot.{Slot}

-- each bit is 0
abbrev pub all_zero : List ℕ → Bool
all_zero [] = true
all_zero (b ∷ bs) = nat_eq b 0 && all_zero bs

-- the first numbers of so many bits
abbrev pub words_in : (width count : ℕ) → List ℕ → List Word
words_in width zero bits = []
words_in width (suc n) bits = word width (number_of (take width bits)) ∷ words_in width n (drop width bits)

-- a list that holds so many items, if there are no more than it has room for, and if what is not used is 0
abbrev pub list_in : (width count used : ℕ) → List ℕ → Option (List Word)
list_in width count used bits =
    if nat_le used count && all_zero (take ((count - used) * width) (drop (used * width) bits)) then Some (words_in width used bits) else None

-- the values of a variable
abbrev pub slot_in : Slot → List ℕ → Option (List Word)
slot_in s bits =
    if nat_eq s.count 0 then Some (words_in s.width 1 bits) else list_in s.width s.count (number_of (take 8 bits)) (drop 8 bits)

abbrev pub with_first : Option (List Word) → Option (List (List Word)) → Option (List (List Word))
with_first None t = None
with_first (Some vs) None = None
with_first (Some vs) (Some t) = Some (vs ∷ t)

-- the values of some variables, and zeros behind them
abbrev pub slots_in : List Slot → List ℕ → Option (List (List Word))
slots_in [] bits = if all_zero bits then Some [] else None
slots_in (s ∷ ss) bits = with_first (slot_in s bits) (slots_in ss (drop (slot_length s.width s.count) bits))

-- behind lists that were read before
abbrev pub behind : List (List Word) → Option (List (List Word)) → Option (List (List Word))
behind vs o = option_map (λ t. vs ++ t) o

abbrev pub cells_found : Option Cells → Option (List Word)
cells_found = option_map cells_of
