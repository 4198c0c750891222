-- How an entry and a default are written:
-- `{"key": [part, ..], "action": name, "args": [value, ..], "priority": number}` and
-- `{"action": name, "args": [value, ..]}`, over what the table takes. Read `Object`, `Turns` and
-- `Paths` of json_parts and `Shapes` of p4_tables before it, and `Matches` after it.
use Rattle.std.specs.Prelude.{ℕ, List, [], ◌∷◌, codes, Bool, true, false, nat_lt, if◌then◌else◌, Option, Some, None, Result, Ok, Err, option_and_then}
use Rattle.std.specs.Option.{option_map_or}
use Rattle.std.specs.List.{slice_get}
use Rattle.serde_json.specs.Data.{Data}
use Rattle.json_parts.specs.Answers.{◌>>=◌}
use Rattle.json_parts.specs.Object.{Object, members_of, maybe_at, text_at, list_at, end_of}
use Rattle.json_parts.specs.Paths.{below, item_below}
use Rattle.json_parts.specs.Trees.{as_list, as_whole}
use Rattle.json_parts.specs.Turns.{all_of}
use Rattle.json_parts.specs.declared.fault.ShapeFault.{ShapeFault}
use Rattle.json_parts.specs.declared.fault.ShapeFault.TheVariants.{Shape}
use Rattle.table_shapes.specs.Shapes as shapes
use Rattle.table_shapes.specs.Shapes.{has_ternary}
use Rattle.table_shapes.specs.declared.shape.KeyKind.{KeyKind}
use Rattle.table_shapes.specs.declared.shape.KeyKind.TheVariants.{Exact, Lpm, Ternary}
use Rattle.table_shapes.specs.declared.shape.KeyShape.{KeyShape}
use Rattle.value_shapes.specs.declared.values.ValueShape.{ValueShape}

-- ---- parts of a key

pub data Part : Type 0 where
  -- of an exact key: a value
  whole : ValueShape → (value : Data) → Part
  -- of a key that is matched by its first bits: `[value, length]`
  front : ValueShape → (value : Data) → (length : ℕ) → Part
  -- of a key that is matched under a mask: `[value, mask]`
  masked : ValueShape → (value mask : Data) → Part
  -- a part behind the last key, of whatever form
  past : Part

-- a length; from 255 on all are alike, since no key has more than 128 bits
abbrev pub capped : ℕ → ℕ
capped n = if nat_lt n 255 then n else 255

abbrev pub front_to : (path : List ℕ) → ValueShape → (value : Data) → (length : Option ℕ) → Result Part ShapeFault
front_to path v d None = Err (Shape (item_below path 1))
front_to path v d (Some n) = Ok (front v d (capped n))

abbrev pub front_from : (path : List ℕ) → ValueShape → Option (List Data) → Result Part ShapeFault
front_from path v (Some (d ∷ n ∷ [])) = front_to path v d (as_whole n)
front_from path v _ = Err (Shape path)

abbrev pub masked_from : (path : List ℕ) → ValueShape → Option (List Data) → Result Part ShapeFault
masked_from path v (Some (d ∷ m ∷ [])) = Ok (masked v d m)
masked_from path v _ = Err (Shape path)

abbrev pub part_by : (path : List ℕ) → KeyKind → ValueShape → Data → Result Part ShapeFault
part_by path Exact v d = Ok (whole v d)
part_by path Lpm v d = front_from path v (as_list d)
part_by path Ternary v d = masked_from path v (as_list d)

abbrev pub part_for : (path : List ℕ) → Option KeyShape → Data → Result Part ShapeFault
part_for path None d = Ok past
part_for path (Some k) d = part_by path k.kind k.value d

-- the part of a number
abbrev pub part_at : (path : List ℕ) → List KeyShape → (number : ℕ) → Data → Result Part ShapeFault
part_at path keys i d = part_for (item_below path i) (slice_get keys i) d

abbrev pub parts_of : (path : List ℕ) → List KeyShape → List Data → Result (List Part) ShapeFault
parts_of path keys ds = all_of (part_at path keys) ds

-- ---- members

-- an action by a name, with values for its parameters
pub record Act : Type 0 where
  pub action : List ℕ
  pub args : List Data

pub record Entry : Type 0 where
  pub act : Act
  pub key : List Part
  pub priority : ℕ

-- `args` may be absent
abbrev pub args_from : (path : List ℕ) → Option Data → Result (List Data) ShapeFault
args_from path None = Ok []
args_from path (Some d) = option_map_or (λ ds. Ok ds) (as_list d) (Err (Shape (below path (codes "args"))))

unfoldable pub act_at : (path : List ℕ) → Object → Result Act ShapeFault
act_at path o = do
  action ← text_at o (codes "action")
  d ← maybe_at o (codes "args")
  args ← args_from path d
  Ok (record { action = action; args = args })

unfoldable pub key_at : (path : List ℕ) → List KeyShape → Object → Result (List Part) ShapeFault
key_at path keys o = do
  ds ← list_at o (codes "key")
  parts_of (below path (codes "key")) keys ds

-- a priority is below 2^32
abbrev pub priority_in : Option Data → Option ℕ
priority_in d = option_and_then (λ n. if nat_lt n 4294967296 then Some n else None) (option_and_then as_whole d)

abbrev pub priority_from : (path : List ℕ) → Option ℕ → Result ℕ ShapeFault
priority_from path n = option_map_or (λ n. Ok n) n (Err (Shape (below path (codes "priority"))))

-- it stands in tables with a ternary key alone, and has to
unfoldable pub priority_at : (path : List ℕ) → (has_ternary : Bool) → Object → Result ℕ ShapeFault
priority_at path false o = Ok 0
priority_at path true o = maybe_at o (codes "priority") >>= λ d. priority_from path (priority_in d)

-- the names of the members of an entry, and of a default
abbrev pub entry_names : (has_ternary : Bool) → List (List ℕ)
entry_names false = codes "action" ∷ codes "args" ∷ codes "key" ∷ []
entry_names true = codes "action" ∷ codes "args" ∷ codes "key" ∷ codes "priority" ∷ []

abbrev pub default_names : List (List ℕ)
default_names = codes "action" ∷ codes "args" ∷ []

-- the entry at a path, or the first fault of its form
unfoldable pub entry_at : (path : List ℕ) → shapes.Shape → Data → Result Entry ShapeFault
entry_at path s d = do
  members ← members_of path (entry_names (has_ternary s.keys)) d
  act ← act_at path members
  key ← key_at path s.keys members
  priority ← priority_at path (has_ternary s.keys) members
  rest ← end_of members
  Ok (record { act = act; key = key; priority = priority })

-- likewise the default
unfoldable pub default_at : (path : List ℕ) → Data → Result Act ShapeFault
default_at path d = do
  members ← members_of path default_names d
  act ← act_at path members
  rest ← end_of members
  Ok act
