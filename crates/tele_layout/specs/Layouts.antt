-- Where the variables stand in the telemetry. Read `Telemetry` and `Sums` of `indus_types` before it.
use Rattle.std.specs.Prelude.{◌≡◌, ℕ, ◌+◌, ◌*◌, ◌≤◌, List, [], ◌∷◌, ◌++◌, length, map, nat_eq, if◌then◌else◌, MatchBool, Option, Some, None}
use Rattle.std.specs.List.{All}
use Rattle.bit_values.specs.Bits.{Word}
use Rattle.bit_values.specs.BitLists.{number_bits}
use Rattle.bit_writer.specs.Bytes.{bytes_of}
use Rattle.indus_tree.specs.Tree.{Shape, Decl, Property}
use Rattle.indus_tree.specs.State.{shape_width, shape_size}
use Rattle.indus_tree.specs.Hops.{same_kind}
use Rattle.indus_tree.specs.Shapes.{HasWidth}
use Rattle.indus_tree.specs.declared.tree.DeclKind.TheVariants.{Tele}
use Rattle.indus_types.specs.Sums.{cut, property_bits}
use Rattle.indus_values.specs.View.{cells_of}
use Rattle.indus_values.specs.declared.state.TeleState.{TeleState}
use Rattle.tele_layout.specs.Telemetry.{slot_bits, first_byte, whole_bytes, filled}
use Rattle.tele_layout.specs.declared.slots.Slot.{Slot}
use Rattle.tele_layout.specs.declared.slots.Layout.{Layout}

-- ---- bits and bytes

-- how many bits a variable takes; that of a scalar has count 0
abbrev pub slot_length : (width count : ℕ) → ℕ
slot_length width count = if nat_eq count 0 then width else 8 + count * width

abbrev pub slots_length : List Slot → ℕ
slots_length [] = 0
slots_length (s ∷ ss) = slot_length s.width s.count + slots_length ss

-- the variables, one behind the other
abbrev pub slots_bits : List Slot → List (List Word) → List ℕ
slots_bits [] t = []
slots_bits (s ∷ ss) [] = []
slots_bits (s ∷ ss) (vs ∷ t) = slot_bits s.width s.count vs ++ slots_bits ss t

abbrev pub layout_bits : Layout → List (List Word) → List ℕ
layout_bits l t = number_bits 8 l.first ++ slots_bits l.slots.items t

-- the bytes of a state in a layout
abbrev pub layout_bytes : Layout → List (List Word) → List ℕ
layout_bytes l t = bytes_of (filled (layout_bits l t))

-- ---- states

-- the values of a state's variables
abbrev pub lists_of : TeleState → List (List Word)
lists_of t = map cells_of t.items.items

abbrev pub lists_in : Option TeleState → Option (List (List Word))
lists_in None = None
lists_in (Some t) = Some (lists_of t)

-- a scalar holds one value, and a list at most as many as it has room for
abbrev pub IsUsed : (count used : ℕ) → Type 0
IsUsed count used = MatchBool (nat_eq count 0) (used ≡ 1) (used ≤ count)

-- the values fit the slot
pub record FitsSlot (s : Slot) (vs : List Word) : Type 0 where
  pub used : IsUsed s.count (length vs)
  pub words : All (HasWidth s.width) vs

-- the state has values for each slot, and no more
abbrev pub FitSlots : List Slot → List (List Word) → Type 0
FitSlots [] [] = Unit {0}
FitSlots [] (vs ∷ t) = ⊥
FitSlots (s ∷ ss) [] = ⊥
FitSlots (s ∷ ss) (vs ∷ t) = FitsSlot s vs × FitSlots ss t

-- ---- layouts

-- the slot begins at this bit
pub record IsSlot (at : ℕ) (s : Slot) : Type 0 where
  pub begins : s.at ≡ at
  pub wide : 1 ≤ s.width
  pub narrow : s.width ≤ 128
  pub small : s.count ≤ 255

-- the slots stand one directly behind the other
abbrev pub ArePlaced : (at : ℕ) → List Slot → Type 0
ArePlaced at [] = Unit {0}
ArePlaced at (s ∷ ss) = IsSlot at s × ArePlaced (at + slot_length s.width s.count) ss

-- the first slot stands behind the first byte, and the last one ends in the last byte
pub record IsLayout (l : Layout) : Type 0 where
  pub placed : ArePlaced 8 l.slots.items
  pub whole : l.bytes ≡ whole_bytes (8 + slots_length l.slots.items)

-- ---- of a property

-- where a variable of a shape stands; its number is cut at the greatest of 32 bits
abbrev pub slot_of : (number at : ℕ) → Shape → Slot
slot_of number at s = record { variable = cut number; at = at; width = shape_width s; count = shape_size s }

-- the slots of the variables that travel, where the first declaration has this number and the first slot begins at this
-- bit
abbrev pub slots_of : (number at : ℕ) → List Decl → List Slot
slots_of number at [] = []
slots_of number at (d ∷ ds) =
    if same_kind Tele d.kind
    then slot_of number at d.shape ∷ slots_of (number + 1) (at + slot_length (shape_width d.shape) (shape_size d.shape)) ds
    else slots_of (number + 1) at ds

-- the layout of a property: the first byte tells its edition, the variables stand in order of declaration, and there are
-- as many bytes as the property's bits take
pub record IsLayoutOf (p : Property) (l : Layout) : Type 0 where
  pub first : l.first ≡ first_byte p.edition
  pub bytes : l.bytes ≡ whole_bytes (property_bits p)
  pub slots : l.slots.items ≡ slots_of 0 8 p.decls
