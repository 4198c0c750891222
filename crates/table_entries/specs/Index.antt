-- What the entries of a table run, by what they ask of the keys; or in a table with a ternary key where they stand, by their
-- priority. Read `Signs` before it.
use Rattle.std.specs.Prelude.{◌≡◌, ◌<◌, ◌⊎◌, ℕ, suc, zero, List, [], ◌∷◌, length, map, Bool, true, false, nat_eq, if◌then◌else◌, Option, Some, None, slice_get}
use Rattle.std.specs.Option.{option_map, option_or}
use Rattle.std.specs.Cmp.Lexicographic.{pointwise}
use Rattle.std.specs.Ordering.{nat_cmp}
use Rattle.std.specs.BTreeMap as tree
use Rattle.std.specs.declared.cmp.Reverse.{Reverse}
use Rattle.bit_values.specs.Bits.{Word}
use Rattle.p4_meaning.specs.Choice.{fits_keys}
use Rattle.table_entries.specs.Entries.{Entry, Act, act_in}
use Rattle.table_entries.specs.View.{act_of}
use Rattle.table_shapes.specs.Shapes.{have_widths}
use Rattle.table_entries.specs.Signs.{signs_of, wanted, packed, sign_act}
use Rattle.table_shapes.specs.declared.shape.KeyKind.{KeyKind}
use Rattle.table_shapes.specs.declared.shape.KeyKind.TheVariants.{Exact, Lpm, Ternary}
use Rattle.table_shapes.specs.declared.shape.KeyShape.{KeyShape}
use Rattle.table_entries.specs.declared.index.Index.{Index}
use Rattle.table_entries.specs.declared.index.Index.TheVariants.{Signs, Priorities}

-- ---- where something stands

-- where the first one that passes stands
abbrev pub place_in : {A : Type 0} → (A → Bool) → List A → Option ℕ
place_in p [] = None
place_in p (x ∷ xs) = if p x then Some 0 else option_map suc (place_in p xs)

abbrev pub asks : List ℕ → Entry → Bool
asks s e = pointwise nat_eq s (signs_of e.keys)

abbrev pub has_rank : ℕ → Entry → Bool
has_rank p e = nat_eq p e.priority

-- what the first one runs that passes
abbrev pub first_act : (Entry → Bool) → List Entry → Option Act
first_act p [] = None
first_act p (e ∷ es) = if p e then Some (act_in e) else first_act p es

-- where one of this priority stands
abbrev pub priority_place : tree.BTreeMap (Reverse ℕ) ℕ → ℕ → Option ℕ
priority_place m p = tree.get (λ x y. nat_cmp y.0 x.0) m (record { 0 = p })

-- the index tells what the first entry runs that asks for something, or where the first one stands that has a priority
abbrev pub IsIndex : List KeyShape → (has_ternary : Bool) → List Entry → Index → Type 0
IsIndex ks t es (Signs m) = (t ≡ false) × ((s : List ℕ) → option_map act_of (sign_act ks m s) ≡ first_act (asks s) es)
IsIndex ks t es (Priorities m) = (t ≡ true) × ((p : ℕ) → priority_place m p ≡ place_in (has_rank p) es)

-- ---- what is found

-- the width of the first key that is matched by its first bits, or else 0
abbrev pub longest_of : KeyKind → (width other : ℕ) → ℕ
longest_of Exact w n = n
longest_of Lpm w n = w
longest_of Ternary w n = n

abbrev pub longest : List KeyShape → ℕ
longest [] = 0
longest (k ∷ ks) = longest_of k.kind k.value.width (longest ks)

-- the first that is told of prefixes of this length, and of each shorter one
abbrev pub first_told : {A : Type 0} → (ℕ → Option A) → ℕ → Option A
first_told told zero = told 0
first_told told (suc n) = option_or (told (suc n)) (first_told told n)

-- an entry, where there is one and it fits, and else another
abbrev pub fit_or : List Word → Option Entry → Option Entry → Option Entry
fit_or ws None o = o
fit_or ws (Some e) o = if fits_keys e.keys ws then Some e else o

-- the first of the entries at these places that fits
abbrev pub first_fit : List Entry → List Word → List (Reverse ℕ × ℕ) → Option Entry
first_fit es ws [] = None
first_fit es ws (x ∷ xs) = fit_or ws (slice_get es x.1) (first_fit es ws xs)

-- ---- what is not told

-- more numbers than are looked for without memory
abbrev pub AreMany : List ℕ → Type 0
AreMany s = 16 < length s

-- so many numbers, which do not fit into one
abbrev pub AreUnpacked : List KeyShape → List ℕ → Type 0
AreUnpacked ks s = (packed ks s ≡ None) × AreMany s

-- what asks for these keys, with some number of first bits, is such numbers
pub record IsLong (ks : List KeyShape) (ws : List Word) : Type 0 where
  pub first_bits : ℕ
  pub many : AreUnpacked ks (wanted ks first_bits ws)

-- the index does not tell what runs for these keys: they have other widths than the table's, or are many numbers
abbrev pub IsUntold : List KeyShape → List Word → Type 0
IsUntold ks ws = (have_widths (map (λ k. k.value) ks) ws ≡ false) ⊎ IsLong ks ws
