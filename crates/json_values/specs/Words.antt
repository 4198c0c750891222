-- Which word a value is. Read `Texts` before it.
use Rattle.std.specs.Prelude.{ℕ, ◌^◌, nat_lt, ◌==◌, List, true, false, Option, Some, None, option_map, option_and_then, Result, Ok, Err, if◌then◌else◌}
use Rattle.std.specs.Option.{option_map_or, option_or}
use Rattle.serde_json.specs.Data.{Data}
use Rattle.serde_json.specs.Find.{as_bool, as_str}
use Rattle.bit_values.specs.Bits.{Word, word}
use Rattle.bit_values.specs.Widths.{bit, sound_width}
use Rattle.table_faults.specs.declared.table.TableFault.{TableFault}
use Rattle.table_faults.specs.declared.table.TableFault.TheVariants as fault
use Rattle.json_parts.specs.declared.fault.ShapeFault.{ShapeFault}
use Rattle.json_parts.specs.declared.fault.ShapeFault.TheVariants as shape
use Rattle.json_parts.specs.Trees.{as_list, as_fields, as_whole}
use Rattle.json_values.specs.Texts.{text_value}
use Rattle.json_values.specs.declared.word.WordKind.{WordKind}
use Rattle.json_values.specs.declared.word.WordKind.TheVariants as kind

-- the number in so many bits, where it fits
abbrev pub fitting : (width : ℕ) → ℕ → Option Word
fitting width n = if nat_lt n (2 ^ width) then Some (word width n) else None

-- a whole number, or a text that is one
abbrev pub number_from : (width : ℕ) → (text : Option (List ℕ)) → (whole : Option ℕ) → Option ℕ
number_from width (Some text) whole = text_value width text
number_from width None whole = whole

abbrev pub number_in : (width : ℕ) → Data → Option ℕ
number_in width d = number_from width (as_str d) (as_whole d)

-- a bit that is written as the number 1 or 0
abbrev pub bit_of : Data → Option Word
bit_of d = option_and_then (λ n. if n == 0 then Some (bit false) else if n == 1 then Some (bit true) else None) (as_whole d)

-- `true` or `false`
abbrev pub truth_of : Data → Option Word
truth_of d = option_map bit (as_bool d)

-- the word that a value is in a place of a kind. A width that no number has, which well-typed programs and properties
-- do not have, counts as 128
abbrev pub word_of : WordKind → Data → Option Word
word_of (kind.Number width) d = option_and_then (fitting (sound_width width)) (number_in (sound_width width) d)
word_of kind.Truth d = truth_of d
word_of kind.TruthOrBit d = option_or (truth_of d) (bit_of d)

-- the word at a path
abbrev pub word_at : (path : List ℕ) → WordKind → Data → Result Word TableFault
word_at path k d = option_map_or (λ w. Ok w) (word_of k d) (Err (fault.Value path))

-- the array or the object at a path
abbrev pub list_at : (path : List ℕ) → Data → Result (List Data) TableFault
list_at path d = option_map_or (λ ds. Ok ds) (as_list d) (Err (fault.Shape path))

abbrev pub object_at : (path : List ℕ) → Data → Result (List (List ℕ × Data)) TableFault
object_at path d = option_map_or (λ fields. Ok fields) (as_fields d) (Err (fault.Shape path))

-- the faults of a value's form
abbrev pub fault_of : ShapeFault → TableFault
fault_of shape.NoMemory = fault.NoMemory
fault_of (shape.Shape path) = fault.Shape path
