-- A value as a list of elements, as a list of members, and as a number.
use Rattle.std.specs.Prelude.{ℕ, List, [], ◌∷◌, Option, option_map, option_and_then}
use Rattle.serde_json.specs.Data.{Data, Items, no_items, item, Members, no_members, member}
use Rattle.serde_json.specs.Find.{as_array, as_object, as_number, as_u64}

-- the elements of an array
abbrev pub elements : Items → List Data
elements no_items = []
elements (item d ds) = d ∷ elements ds

abbrev pub as_list : Data → Option (List Data)
as_list d = option_map elements (as_array d)

-- the members of an object with their names, in the byte order of the names
abbrev pub named : Members → List (List ℕ × Data)
named no_members = []
named (member name d ms) = (name, d) ∷ named ms

abbrev pub as_fields : Data → Option (List (List ℕ × Data))
as_fields d = option_map named (as_object d)

-- a whole number below 2^64, which is written without a point, an exponent or a sign
abbrev pub as_whole : Data → Option ℕ
as_whole d = option_and_then as_u64 (as_number d)
