-- The members of an object, in the byte order of their names: of several faults the first in that
-- order is answered, a missing member at its place among the others.
use Rattle.std.specs.Prelude.{ℕ, List, map, Bool, not, nat_lt, ◌||◌, if◌then◌else◌, find, Option, Some, None, Result, Ok, Err, option_map, option_and_then, ⊤}
use Rattle.std.specs.Option.{option_map_or}
use Rattle.std.specs.Ordering.{nat_cmp, match_ordering}
use Rattle.std.specs.Cmp.Lexicographic.{slice_cmp}
use Rattle.std.specs.List.{list_any}
use Rattle.std.specs.Str.{bytes_eq}
use Rattle.serde_json.specs.Data.{Data}
use Rattle.serde_json.specs.Find.{get, as_str}
use Rattle.json_parts.specs.Trees.{as_list, as_fields, as_whole}
use Rattle.json_parts.specs.Answers.{◌>>=◌}
use Rattle.json_parts.specs.Paths.{below}
use Rattle.json_parts.specs.declared.fault.ShapeFault.{ShapeFault}
use Rattle.json_parts.specs.declared.fault.ShapeFault.TheVariants.{Shape}

-- an object at a path, and the first of its members that none of the known names is
pub record Object : Type 0 where
  pub path : List ℕ
  pub value : Data
  pub unknown : Option (List ℕ)

-- the name is among those that are known
abbrev pub is_known : List (List ℕ) → List ℕ → Bool
is_known names name = list_any (bytes_eq name) names

-- the first name that is none of the known ones
abbrev pub first_unknown : (known names : List (List ℕ)) → Option (List ℕ)
first_unknown known names = find (λ name. not (is_known known name)) names

-- the object at a path whose members may have these names
unfoldable pub members_of : (path : List ℕ) → (known : List (List ℕ)) → Data → Result Object ShapeFault
members_of path known d =
    option_map_or
    (λ fields. Ok (record { path = path; value = d; unknown = first_unknown known (map (λ f. f.0) fields) }))
    (as_fields d)
    (Err (Shape path))

-- what has this name is missing or ill-formed
abbrev pub refused : {X : Type 0} → Object → List ℕ → Result X ShapeFault
refused o name = Err (Shape (below o.path name))

-- no unknown member stands before this name
abbrev pub passed_by : Object → List ℕ → Option (List ℕ) → Result ⊤ ShapeFault
passed_by o name None = Ok tt
passed_by o name (Some u) = match_ordering (slice_cmp nat_cmp u name) (refused o u) (Ok tt) (Ok tt)

abbrev pub passed : Object → List ℕ → Result ⊤ ShapeFault
passed o name = passed_by o name o.unknown

-- no unknown member is left behind the last name
abbrev pub end_by : Object → Option (List ℕ) → Result ⊤ ShapeFault
end_by o None = Ok tt
end_by o (Some u) = refused o u

abbrev pub end_of : Object → Result ⊤ ShapeFault
end_of o = end_by o o.unknown

-- a member that may be there
unfoldable pub maybe_at : Object → List ℕ → Result (Option Data) ShapeFault
maybe_at o name = passed o name >>= λ _. Ok (get name o.value)

-- what is there, or the fault of this name
abbrev pub or_refused : {X : Type 0} → Object → List ℕ → Option X → Result X ShapeFault
or_refused o name x = option_map_or (λ x. Ok x) x (refused o name)

-- a text that has to be there
unfoldable pub text_at : Object → List ℕ → Result (List ℕ) ShapeFault
text_at o name = maybe_at o name >>= λ d. or_refused o name (option_and_then as_str d)

-- a text that may be there
abbrev pub text_if : Object → List ℕ → Option Data → Result (Option (List ℕ)) ShapeFault
text_if o name None = Ok None
text_if o name (Some d) = or_refused o name (option_map (λ s. Some s) (as_str d))

unfoldable pub maybe_text_at : Object → List ℕ → Result (Option (List ℕ)) ShapeFault
maybe_text_at o name = maybe_at o name >>= λ d. text_if o name d

-- an array that has to be there
unfoldable pub list_at : Object → List ℕ → Result (List Data) ShapeFault
list_at o name = maybe_at o name >>= λ d. or_refused o name (option_and_then as_list d)

-- a whole number in a range
abbrev pub number_in : Object → List ℕ → (least greatest : ℕ) → Option ℕ → Result ℕ ShapeFault
number_in o name least greatest None = refused o name
number_in o name least greatest (Some n) =
    if nat_lt n least || nat_lt greatest n then refused o name else Ok n

abbrev pub number_if : Object → List ℕ → (least greatest default : ℕ) → Option Data → Result ℕ ShapeFault
number_if o name least greatest default None = Ok default
number_if o name least greatest default (Some d) = number_in o name least greatest (as_whole d)

-- a whole number in a range, or the default where it is not there
unfoldable pub number_at : Object → List ℕ → (least greatest default : ℕ) → Result ℕ ShapeFault
number_at o name least greatest default =
    maybe_at o name >>= λ d. number_if o name least greatest default d
