-- What entries ask of keys, as numbers, and what the first entry runs that asks for something. Read `Kept` before it and
-- `Index` after it.
use Rattle.std.specs.Prelude.{ℕ, suc, ◌+◌, ◌*◌, ◌-◌, ◌/◌, ◌^◌, List, [], ◌∷◌, ◌++◌, ◌&&◌, nat_eq, nat_lt, bit_and, if◌then◌else◌, Option, Some, None}
use Rattle.std.specs.Option.{option_and_then}
use Rattle.std.specs.Global.{Vec}
use Rattle.std.specs.Cmp.Lexicographic.{pointwise}
use Rattle.std.specs.HashMap as hash
use Rattle.bit_values.specs.Bits.{Word}
use Rattle.p4_meaning.specs.Choice.{Match, exact, lpm, ternary}
use Rattle.table_entries.specs.declared.entry.Act as code_act
use Rattle.table_shapes.specs.declared.shape.KeyKind.{KeyKind}
use Rattle.table_shapes.specs.declared.shape.KeyKind.TheVariants.{Exact, Lpm, Ternary}
use Rattle.table_shapes.specs.declared.shape.KeyShape.{KeyShape}
use Rattle.table_entries.specs.declared.signs.Signs.{Signs}

-- ---- what is asked, as numbers

-- what is asked of a key: a number; how many first bits, and these; or a mask, and the bits under it
abbrev pub sign_of : Match → List ℕ
sign_of (exact v) = v.value ∷ []
sign_of (lpm v n) = n ∷ v.value / 2 ^ (v.width - n) ∷ []
sign_of (ternary v m) = m.value ∷ bit_and v.value m.value ∷ []

-- what is asked of all keys
abbrev pub signs_of : List Match → List ℕ
signs_of [] = []
signs_of (m ∷ ms) = sign_of m ++ signs_of ms

-- what asks for one key that is matched like this, with so many first bits where they count
abbrev pub wanted_of : KeyKind → (length : ℕ) → Word → List ℕ
wanted_of Exact n w = w.value ∷ []
wanted_of Lpm n w = n ∷ w.value / 2 ^ (w.width - n) ∷ []
wanted_of Ternary n w = w.value ∷ []

-- what asks for just these keys
abbrev pub wanted : List KeyShape → (length : ℕ) → List Word → List ℕ
wanted [] n ws = []
wanted (k ∷ ks) n [] = []
wanted (k ∷ ks) n (w ∷ ws) = wanted_of k.kind n w ++ wanted ks n ws

-- ---- as one number

-- a prefix as one number: a one, and behind it so many bits; none where there is no room for the one, or where the bits
-- are more
abbrev pub prefix_code : (length bits : ℕ) → Option ℕ
prefix_code n b = if nat_lt n 128 && nat_lt b (2 ^ n) then Some (2 ^ n + b) else None

-- a number of so many bits behind what stands before, where both fit into one
abbrev pub joined : (width number before : ℕ) → Option ℕ
joined w n c = if nat_lt n (2 ^ w) && nat_lt (c * 2 ^ w + n) (2 ^ 128) then Some (c * 2 ^ w + n) else None

-- what is asked of one key is two numbers for a prefix, and else one
abbrev pub by_kind : KeyKind → (one two : Option ℕ) → Option ℕ
by_kind Exact one two = one
by_kind Lpm one two = two
by_kind Ternary one two = one

-- a number of a key, and a prefix of one, behind what stands before
abbrev pub number_behind : KeyShape → (number before : ℕ) → Option ℕ
number_behind k n c = joined k.value.width n c

abbrev pub prefix_behind : KeyShape → (length bits before : ℕ) → Option ℕ
prefix_behind k n b c = option_and_then (λ p. joined (suc k.value.width) p c) (prefix_code n b)

-- the first number of a sign, or the first two, behind what stands before; and then the rest of the sign
abbrev pub number_first : KeyShape → (rest : List ℕ → ℕ → Option ℕ) → List ℕ → (before : ℕ) → Option ℕ
number_first k rest [] c = None
number_first k rest (n ∷ s) c = option_and_then (rest s) (number_behind k n c)

abbrev pub prefix_first : KeyShape → (rest : List ℕ → ℕ → Option ℕ) → List ℕ → (before : ℕ) → Option ℕ
prefix_first k rest [] c = None
prefix_first k rest (n ∷ []) c = None
prefix_first k rest (n ∷ b ∷ s) c = option_and_then (rest s) (prefix_behind k n b c)

-- a sign behind what stands before, as one number, where it fits into one
abbrev pub packed_behind : List KeyShape → List ℕ → (before : ℕ) → Option ℕ
packed_behind [] [] c = Some c
packed_behind [] (n ∷ s) c = None
packed_behind (k ∷ ks) s c = by_kind k.kind (number_first k (packed_behind ks) s c) (prefix_first k (packed_behind ks) s c)

-- a sign as one number
abbrev pub packed : List KeyShape → List ℕ → Option ℕ
packed ks s = packed_behind ks s 0

-- ---- what is noted

-- for a number, and for numbers
abbrev pub number_act : {S : Type 0} → hash.HashMap ℕ code_act.Act S → ℕ → Option code_act.Act
number_act m n = hash.get nat_eq m n

abbrev pub list_act : {S : Type 0} → hash.HashMap (Vec ℕ) code_act.Act S → List ℕ → Option code_act.Act
list_act m s = hash.get_by (λ k. pointwise nat_eq s k.items) m

abbrev pub kept_at : Signs → List ℕ → (code : Option ℕ) → Option code_act.Act
kept_at m s (Some c) = number_act m.numbers c
kept_at m s None = list_act m.lists s

-- for a sign
abbrev pub sign_act : List KeyShape → Signs → List ℕ → Option code_act.Act
sign_act ks m s = kept_at m s (packed ks s)
