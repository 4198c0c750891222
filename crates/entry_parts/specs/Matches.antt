-- Which words and matches the values of an entry say. Read `Written` and `Words` of json_values
-- before it, and `Entries` after it.
use Rattle.std.specs.Prelude.{ℕ, ◌-◌, List, if◌then◌else◌, bit_and, Option, Some, None, Result, Ok, Err}
use Rattle.std.specs.List.{slice_get}
use Rattle.serde_json.specs.Data.{Data}
use Rattle.bit_values.specs.Bits.{Word, word, shl, shr}
use Rattle.p4_meaning.specs.Choice.{Match, exact, lpm, ternary}
use Rattle.table_faults.specs.declared.table.TableFault.{TableFault}
use Rattle.table_faults.specs.declared.table.TableFault.TheVariants.{Value}
use Rattle.json_parts.specs.Answers.{◌>>=◌}
use Rattle.json_parts.specs.Paths.{item_below}
use Rattle.json_parts.specs.Turns.{all_of}
use Rattle.json_values.specs.Words.{word_at}
use Rattle.json_values.specs.declared.word.WordKind.{WordKind}
use Rattle.json_values.specs.declared.word.WordKind.TheVariants.{Number, TruthOrBit}
use Rattle.value_shapes.specs.declared.values.ValueShape.{ValueShape}
use Rattle.entry_parts.specs.Written.{Part, whole, front, masked, past}

-- a truth value may also be 1 or 0
abbrev pub word_kind : ValueShape → WordKind
word_kind v = if v.is_truth then TruthOrBit else Number v.width

abbrev pub value_at : (path : List ℕ) → ValueShape → Data → Result Word TableFault
value_at path v d = word_at path (word_kind v) d

-- ---- arguments

-- no value is one of a parameter that is not there
abbrev pub arg_for : (path : List ℕ) → Option ValueShape → Data → Result Word TableFault
arg_for path None d = Err (Value path)
arg_for path (Some v) d = value_at path v d

abbrev pub arg_at : (path : List ℕ) → (params : List ValueShape) → (number : ℕ) → Data → Result Word TableFault
arg_at path params i d = arg_for (item_below path i) (slice_get params i) d

abbrev pub args_of : (path : List ℕ) → (params : List ValueShape) → List Data → Result (List Word) TableFault
args_of path params ds = all_of (arg_at path params) ds

-- ---- keys

-- bits behind the first ones are 0
abbrev pub front_bits : Word → (length : ℕ) → Word
front_bits w n = word w.width (shl w.width (shr w.value (w.width - n)) (w.width - n))

-- bits outside the mask are 0
abbrev pub masked_bits : Word → (mask : Word) → Word
masked_bits w m = word w.width (bit_and w.value m.value)

-- no value is one of a key that is not there
unfoldable pub match_of : (path : List ℕ) → Part → Result Match TableFault
match_of path (whole v d) = value_at path v d >>= λ w. Ok (exact w)
match_of path (front v d n) = value_at (item_below path 0) v d >>= λ w. Ok (lpm (front_bits w n) n)
match_of path (masked v d m) = do
  w ← value_at (item_below path 0) v d
  mask ← value_at (item_below path 1) v m
  Ok (ternary (masked_bits w mask) mask)
match_of path past = Err (Value path)

abbrev pub match_at : (path : List ℕ) → (number : ℕ) → Part → Result Match TableFault
match_at path i p = match_of (item_below path i) p

abbrev pub matches_of : (path : List ℕ) → List Part → Result (List Match) TableFault
matches_of path parts = all_of (match_at path) parts
