-- How a network file is written: `{"switches": [name, ..], "links": [[name, port, name, port], ..]}`.
-- Read `Object`, `Turns` and `Paths` of json_parts before it, and `Network` after it.
use Rattle.std.specs.Prelude.{ℕ, ◌==◌, ◌&&◌, ◌||◌, List, [], ◌∷◌, length, codes, Bool, false, nat_le, nat_lt, if◌then◌else◌, Option, Some, None, Result, Ok, Err, option_and_then}
use Rattle.std.specs.Option.{option_map_or}
use Rattle.std.specs.List.{list_all}
use Rattle.serde_json.specs.Data.{Data}
use Rattle.serde_json.specs.Find.{as_str}
use Rattle.json_parts.specs.Answers.{◌>>=◌}
use Rattle.json_parts.specs.Object.{members_of, list_at, end_of}
use Rattle.json_parts.specs.Paths.{item_below}
use Rattle.json_parts.specs.Trees.{as_list, as_whole}
use Rattle.json_parts.specs.Turns.{all_of}
use Rattle.json_parts.specs.declared.fault.ShapeFault.{ShapeFault}
use Rattle.json_parts.specs.declared.fault.ShapeFault.TheVariants.{Shape}

-- a digit, a letter or `_`
abbrev pub is_name_byte : ℕ → Bool
is_name_byte b =
    (nat_le 48 b && nat_le b 57) || (nat_le 65 b && nat_le b 90) || (nat_le 97 b && nat_le b 122) || b == 95

-- a name has 1 to 32 of them
abbrev pub is_name : List ℕ → Bool
is_name s = if length s == 0 || nat_lt 32 (length s) then false else list_all is_name_byte s

abbrev pub name_of : Data → Option (List ℕ)
name_of d = option_and_then (λ s. if is_name s then Some s else None) (as_str d)

abbrev pub name_at : (path : List ℕ) → Data → Result (List ℕ) ShapeFault
name_at path d = option_map_or (λ s. Ok s) (name_of d) (Err (Shape path))

-- any number below 2^64; whether it is in range is tested later
abbrev pub port_at : (path : List ℕ) → Data → Result ℕ ShapeFault
port_at path d = option_map_or (λ n. Ok n) (as_whole d) (Err (Shape path))

-- a link: the names of its switches, each with a port
pub record NamedLink : Type 0 where
  pub one : List ℕ
  pub one_port : ℕ
  pub other : List ℕ
  pub other_port : ℕ

abbrev pub link_path : (number : ℕ) → List ℕ
link_path number = item_below (codes "/links") number

abbrev pub switch_path : (number : ℕ) → List ℕ
switch_path number = item_below (codes "/switches") number

-- a link is an array of four; any other is ill-formed at the array, a part of it at the part
abbrev pub link_from : (path : List ℕ) → Option (List Data) → Result NamedLink ShapeFault
link_from path (Some (a ∷ b ∷ c ∷ d ∷ [])) = do
  one ← name_at (item_below path 0) a
  one_port ← port_at (item_below path 1) b
  other ← name_at (item_below path 2) c
  other_port ← port_at (item_below path 3) d
  Ok (record { one = one; one_port = one_port; other = other; other_port = other_port })
link_from path _ = Err (Shape path)

unfoldable pub link_at : (number : ℕ) → Data → Result NamedLink ShapeFault
link_at number d = link_from (link_path number) (as_list d)

abbrev pub switch_at : (number : ℕ) → Data → Result (List ℕ) ShapeFault
switch_at number d = name_at (switch_path number) d

abbrev pub links_of : List Data → Result (List NamedLink) ShapeFault
links_of ds = all_of link_at ds

abbrev pub switches_of : List Data → Result (List (List ℕ)) ShapeFault
switches_of ds = all_of switch_at ds

pub record NamedFile : Type 0 where
  pub switches : List (List ℕ)
  pub links : List NamedLink

-- the file, or the first fault of its form: members in byte order of their names, arrays in order
unfoldable pub file_of : Data → Result NamedFile ShapeFault
file_of d = do
  members ← members_of [] (codes "links" ∷ codes "switches" ∷ []) d
  link_list ← list_at members (codes "links")
  links ← links_of link_list
  switch_list ← list_at members (codes "switches")
  switches ← switches_of switch_list
  rest ← end_of members
  Ok (record { switches = switches; links = links })
