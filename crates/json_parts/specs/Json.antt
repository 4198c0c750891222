-- Which value bytes are.
use Rattle.std.specs.Prelude.{◌≡◌, ℕ, List, Result, Ok, Err, Some}
use Rattle.std.specs.Str.{IsUtf8}
use Rattle.serde_json.specs.Data.{Data}
use Rattle.serde_json.specs.Read.{read}
use Rattle.serde_json.specs.View.{view}
use Rattle.serde_json.specs.declared.value.Value.{Value}
use Rattle.json_parts.specs.declared.fault.JsonFault.{JsonFault}
use Rattle.json_parts.specs.declared.fault.JsonFault.TheVariants.{NoMemory, Json}

-- the bytes are the text of this value, which is nested at most 127 deep
abbrev pub IsJson : List ℕ → Data → Type 0
IsJson bytes d = IsUtf8 bytes × (read bytes ≡ Some d)

-- this value was read, or memory was wanting
abbrev pub IsReading : Data → Result Value JsonFault → Type 0
IsReading d (Ok value) = view value ≡ d
IsReading d (Err NoMemory) = Unit {0}
IsReading d (Err Json) = ⊥
