-- The keys of sets and dicts. Read `Words` of json_values before it, and `Contents` after it.
use Rattle.std.specs.Prelude.{ℕ, get_or, nat_eq, ◌==◌, List, [], ◌∷◌, map, length, Bool, Result, Ok, Err, ⊤, if◌then◌else◌}
use Rattle.std.specs.Cmp.Lexicographic.{pointwise}
use Rattle.std.specs.List.{list_any}
use Rattle.serde_json.specs.Data.{Data}
use Rattle.bit_values.specs.Bits.{Word}
use Rattle.indus_tree.specs.declared.tree.Ty.{Ty}
use Rattle.indus_tree.specs.declared.tree.Ty.TheVariants as ty
use Rattle.table_faults.specs.declared.table.TableFault.{TableFault}
use Rattle.table_faults.specs.declared.table.TableFault.TheVariants as fault
use Rattle.json_parts.specs.Answers.{◌>>=◌}
use Rattle.json_parts.specs.Paths.{item_below}
use Rattle.json_parts.specs.Turns.{all_of}
use Rattle.json_values.specs.Words.{word_at, list_at}
use Rattle.json_values.specs.declared.word.WordKind.{WordKind}
use Rattle.json_values.specs.declared.word.WordKind.TheVariants as kind

-- what word a value of a type is. A truth value is not written as a number
abbrev pub kind_of : Ty → WordKind
kind_of (ty.Bit width) = kind.Number width
kind_of ty.Bool = kind.Truth

-- ---- one key

-- the part of a number, from 0 on, of a key of several
abbrev pub part_at : (path : List ℕ) → List Ty → (number : ℕ) → Data → Result Word TableFault
part_at path types number d = word_at (item_below path number) (kind_of (get_or types number ty.Bool)) d

-- all parts, where there are as many as there are types
abbrev pub parts_at : (path : List ℕ) → List Ty → List Data → Result (List Word) TableFault
parts_at path types ds =
    if length ds == length types then all_of (part_at path types) ds else Err (fault.Shape path)

-- a key of one part is a value, one of several an array
abbrev pub key_at : (path : List ℕ) → List Ty → Data → Result (List Word) TableFault
key_at path (t ∷ []) d = word_at path (kind_of t) d >>= λ w. Ok (w ∷ [])
key_at path types d = list_at path d >>= λ ds. parts_at path types ds

-- ---- keys that differ

-- the numbers that are a key's parts
abbrev pub numbers_of : List Word → List ℕ
numbers_of key = map (λ w. w.value) key

-- two keys are the same where their parts are the same numbers
abbrev pub same_numbers : List ℕ → List ℕ → Bool
same_numbers key other = pointwise nat_eq key other

-- the key is none of those before
abbrev pub fresh : (path : List ℕ) → (before : List (List ℕ)) → List Word → Result ⊤ TableFault
fresh path before key =
    if list_any (same_numbers (numbers_of key)) before then Err (fault.KeyTwice path) else Ok tt

-- the key at a path, where it is none of those before
abbrev pub new_key_at : (path : List ℕ) → List Ty → (before : List (List ℕ)) → Data → Result (List Word) TableFault
new_key_at path types before d = do
  key ← key_at path types d
  new ← fresh path before key
  Ok key
