-- The map of a switch, by the numbers of its program's tables and actions, and what is asked of it. Read `Maps` before it, and
-- `State` and `Named` of `p4_tables`.
use Rattle.std.specs.Prelude.{◌≡◌, ◌≢◌, ℕ, zero, suc, ◌<◌, ◌≤◌, List, [], ◌∷◌, length, map, true, false, nat_eq, if◌then◌else◌, slice_get, Some}
use Rattle.std.specs.List.{AllByRecursion}
use Rattle.bit_values.specs.Bits.{Word}
use Rattle.p4_meaning.specs.Tables.{Table}
use Rattle.p4_meaning.specs.Parts.{Parts}
use Rattle.value_shapes.specs.declared.values.ValueShape.{ValueShape}
use Rattle.table_shapes.specs.Shapes as table
use Rattle.table_shapes.specs.declared.shape.KeyKind.TheVariants.{Exact}
use Rattle.table_shapes.specs.declared.shape.KeyShape.{KeyShape}
use Rattle.p4_tables.specs.State.{Held, held_at, entries_in, replaced}
use Rattle.p4_tables.specs.Named.{action_name, named_act, table_place}
use Rattle.indus_tree.specs.Tree.{Shape, one, list, set, dict}
use Rattle.indus_tree.specs.State.{Contents, single, members, pairs, width_of}
use Rattle.indus_tree.specs.Keys.{same_words}
use Rattle.indus_tree.specs.declared.tree.Ty.{Ty}
use Rattle.control_tables.specs.Contents.{entries_for, default_for}
use Rattle.lookup_names.specs.Keys.{key_types}
use Rattle.control_tables.specs.Tables.{has_miss}
use Rattle.control_maps.specs.Maps.{Lookup, miss}

-- a table and its first action, by their numbers in the switch's program, the number of the variable whose contents the
-- table holds, and the shape that is declared for it
pub record Numbered : Type 0 where
  pub table : ℕ
  pub action : ℕ
  pub variable : ℕ
  pub shape : Shape

-- the full name of the table of a number; nothing where there is none
abbrev pub table_name : List Table → ℕ → List ℕ
table_name [] n = []
table_name (t ∷ ts) zero = t.name
table_name (t ∷ ts) (suc n) = table_name ts n

-- the same by names
abbrev pub named_in : Parts → Numbered → Lookup
named_in f n = record { table = table_name f.tables n.table; action = action_name f.actions n.action; variable = n.variable }

-- ---- what tables hold then

-- the table holds these contents
abbrev pub put_in : Numbered → Contents → List Held → List Held
put_in n c st = replaced st n.table (entries_for n.action c) (default_for n.action c)

-- each table of the map holds the contents of its variable
abbrev pub load_in : List Numbered → (contents : ℕ → Contents) → List Held → List Held
load_in [] c st = st
load_in (n ∷ ns) c st = load_in ns c (put_in n (c n.variable) st)

-- each table of the variable holds its new contents
abbrev pub set_in : List Numbered → (variable : ℕ) → Contents → List Held → List Held
set_in [] v c st = st
set_in (n ∷ ns) v c st = set_in ns v c (if nat_eq n.variable v then put_in n c st else st)

-- ---- contents of a shape

-- a key's parts have the widths of these types; a truth value is one bit
abbrev pub HasTypes : List Ty → List Word → Type 0
HasTypes ts key = map (λ w. w.width) key ≡ map width_of ts

abbrev pub HasShape : Shape → Contents → Type 0
HasShape (one t) (single w) = w.width ≡ width_of t
HasShape (one t) (members ks) = ⊥
HasShape (one t) (pairs es) = ⊥
HasShape (list t n) c = ⊥
HasShape (set ts) (single w) = ⊥
HasShape (set ts) (members ks) = AllByRecursion (HasTypes ts) ks
HasShape (set ts) (pairs es) = ⊥
HasShape (dict ts t) (single w) = ⊥
HasShape (dict ts t) (members ks) = ⊥
HasShape (dict ts t) (pairs es) = AllByRecursion (λ e. HasTypes ts e.0 × (e.1.width ≡ width_of t)) es

-- the keys, no two of which are equal
abbrev pub keys_of : Contents → List (List Word)
keys_of (single w) = []
keys_of (members ks) = ks
keys_of (pairs es) = map (λ e. e.0) es

abbrev pub AreUnequal : List (List Word) → Type 0
AreUnequal [] = Unit {0}
AreUnequal (k ∷ ks) = AllByRecursion (λ j. same_words k j ≡ false) ks × AreUnequal ks

-- ---- the tables of a map

-- a value of so many bits, which is no truth value of P4
abbrev pub bits_of : (width : ℕ) → ValueShape
bits_of w = record { width = w; is_truth = false }

-- the key's parts in order, each matched exactly
abbrev pub exact_keys : List Ty → List KeyShape
exact_keys ts = map (λ t. record { kind = Exact; value = bits_of (width_of t) }) ts

-- the parameters of the first action: none for a set, and else one as wide as the value
abbrev pub params_for : Shape → List ValueShape
params_for (one t) = bits_of (width_of t) ∷ []
params_for (list t n) = bits_of (width_of t) ∷ []
params_for (set ts) = []
params_for (dict ts t) = bits_of (width_of t) ∷ []

-- a table of the form that is given for a variable of this shape
pub record HasForm (s : table.Shape) (action : ℕ) (d : Shape) : Type 0 where
  pub keys : s.keys ≡ exact_keys (key_types d)
  pub first : slice_get s.actions 0 ≡ Some (record { number = action; params = params_for d })
  pub fixed : s.fixed ≡ false

-- where the tables of a program with these parts hold this, the numbers are those of a table of this form. Where some keys
-- find nothing, its default is the miss
pub record IsOfForm (f : Parts) (st : List Held) (n : Numbered) : Type 0 where
  pub long : length st ≡ length f.tables
  pub there : n.table < length f.tables
  -- no table before it has its name
  pub named : table_place f.tables (table_name f.tables n.table) ≡ n.table
  pub form : HasForm (held_at st n.table).shape n.action n.shape
  pub misses : has_miss n.shape ≡ true → named_act (action_name f.actions) (held_at st n.table).default ≡ miss

-- the map of a switch: each table is of its form, and none is there twice
abbrev pub IsMapOf : Parts → List Held → List Numbered → Type 0
IsMapOf f st [] = Unit {0}
IsMapOf f st (n ∷ ns) = IsOfForm f st n × (AllByRecursion (λ k. k.table ≢ n.table) ns × IsMapOf f st ns)

-- ---- what is asked of new contents

-- they have the variable's shape and no equal keys, and with them the tables hold at most 65,536 entries
pub record AreTaken (st : List Held) (ns : List Numbered) (v : ℕ) (c : Contents) (n : Numbered) : Type 0 where
  pub shape : HasShape n.shape c
  pub keys : AreUnequal (keys_of c)
  pub few : entries_in (set_in ns v c st) ≤ 65536

-- so do they for each table of the variable
abbrev pub IsSettable : List Held → List Numbered → (variable : ℕ) → Contents → Type 0
IsSettable st ns v c = AllByRecursion (λ n. nat_eq n.variable v ≡ true → AreTaken st ns v c n) ns
