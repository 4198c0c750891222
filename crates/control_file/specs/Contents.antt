-- The contents of a control variable. Read `Keys` before it, and `Control` after it.
use Rattle.std.specs.Prelude.{ℕ, List, [], ◌∷◌, ◌++◌, map, Result, Ok, Err}
use Rattle.serde_json.specs.Data.{Data}
use Rattle.bit_values.specs.Bits.{Word}
use Rattle.indus_tree.specs.Tree.{Shape, one, list, set, dict}
use Rattle.indus_tree.specs.State.{Contents, single, members, pairs, nothing_of, width_of}
use Rattle.indus_tree.specs.declared.tree.Ty.{Ty}
use Rattle.table_faults.specs.declared.table.TableFault.{TableFault}
use Rattle.table_faults.specs.declared.table.TableFault.TheVariants as fault
use Rattle.json_parts.specs.Answers.{◌>>=◌}
use Rattle.json_parts.specs.Paths.{item_below}
use Rattle.json_parts.specs.Turns.{in_turn}
use Rattle.json_values.specs.Words.{word_at, list_at}
use Rattle.control_file.specs.Keys.{kind_of, numbers_of, key_at, fresh, new_key_at}

-- what a control variable holds until it is set: 0, false, or no keys. No control variable of a well-typed property is a
-- list
abbrev pub unset : Shape → Contents
unset (one t) = single (nothing_of (width_of t))
unset (list t n) = members []
unset (set key) = members []
unset (dict key value) = pairs []

-- what was found before, and one thing more, whose key is none of theirs
abbrev pub with_new : {X : Type 0} → (numbers : X → List ℕ) → (read : (number : ℕ) → (before : List (List ℕ)) → Data → Result X TableFault)
    → List X → (number : ℕ) → Data → Result (List X) TableFault
with_new numbers read found number d = read number (map numbers found) d >>= λ x. Ok (found ++ x ∷ [])

-- ---- sets

abbrev pub set_key_at : (path : List ℕ) → List Ty → (number : ℕ) → (before : List (List ℕ)) → Data → Result (List Word) TableFault
set_key_at path types number before d = new_key_at (item_below path number) types before d

abbrev pub keys_of : (path : List ℕ) → List Ty → List Data → Result (List (List Word)) TableFault
keys_of path types ds = in_turn (with_new numbers_of (set_key_at path types)) [] 0 ds

-- ---- dicts

-- a key and its value: an array of two
pub record Pair : Type 0 where
  pub key : Data
  pub value : Data

abbrev pub pair_from : (path : List ℕ) → List Data → Result Pair TableFault
pair_from path (k ∷ v ∷ []) = Ok (record { key = k; value = v })
pair_from path ds = Err (fault.Shape path)

-- an entry whose key is none of those before. That is asked before its value is read
abbrev pub new_entry_at : (path : List ℕ) → List Ty → Ty → (before : List (List ℕ)) → Data → Result (List Word × Word) TableFault
new_entry_at path types type before d = do
  ds ← list_at path d
  pair ← pair_from path ds
  key ← key_at (item_below path 0) types pair.key
  new ← fresh path before key
  value ← word_at (item_below path 1) (kind_of type) pair.value
  Ok (key, value)

-- the numbers that are the parts of an entry's key
abbrev pub entry_numbers : List Word × Word → List ℕ
entry_numbers e = numbers_of e.0

abbrev pub dict_entry_at : (path : List ℕ) → List Ty → Ty → (number : ℕ) → (before : List (List ℕ)) → Data → Result (List Word × Word) TableFault
dict_entry_at path types type number before d = new_entry_at (item_below path number) types type before d

abbrev pub entries_of : (path : List ℕ) → List Ty → Ty → List Data → Result (List (List Word × Word)) TableFault
entries_of path types type ds = in_turn (with_new entry_numbers (dict_entry_at path types type)) [] 0 ds

-- ---- contents

-- the contents at a path: a value, an array of keys, or an array of keys with their values
unfoldable pub contents_at : (path : List ℕ) → Shape → Data → Result Contents TableFault
contents_at path (one t) d = word_at path (kind_of t) d >>= λ w. Ok (single w)
contents_at path (list t n) d = Err (fault.Shape path)
contents_at path (set key) d = list_at path d >>= λ ds. keys_of path key ds >>= λ ks. Ok (members ks)
contents_at path (dict key value) d = list_at path d >>= λ ds. entries_of path key value ds >>= λ es. Ok (pairs es)
