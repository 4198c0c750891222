-- A value of the program as a list of elements and as a list of members.
use Rattle.std.proofs.Common.{◌≡◌, ℕ, List, [], ◌∷◌, map, Option, Some, Ok, refl, ap, String, Global, string_bytes}
use Rattle.serde_json.specs.Data.{Data}
use Rattle.serde_json.specs.Find.{as_object}
use Rattle.serde_json.specs.View.{view, items_view, members_view}
use Rattle.serde_json.specs.declared.value.Value.{Value}
use Rattle.json_parts.specs.Trees.{elements, named}
use Rattle.json_parts.specs.Views.{field, fields}
use Rattle.json_parts.specs.Object.{members_of, first_unknown}

-- the elements of an array's view are the views of its elements
pub listed : (vs : List Value) → elements (items_view vs) ≡ map view vs
listed [] = refl
listed (v ∷ vs) = ap (λ (ds : List Data). view v ∷ ds) (listed vs)

-- likewise the members of an object's view
pub fielded : (ms : List (String Global × Value)) → named (members_view ms) ≡ fields ms
fielded [] = refl
fielded (m ∷ ms) = ap (λ (fs : List (List ℕ × Data)). field m ∷ fs) (fielded ms)

names_are : (ms : List (String Global × Value)) → map (λ f. f.0) (named (members_view ms)) ≡ map string_bytes (map (λ m. m.0) ms)
names_are [] = refl
names_are (m ∷ ms) = ap (λ (ks : List (List ℕ)). string_bytes m.0 ∷ ks) (names_are ms)

-- the members of an object that is one, with the first unknown name among its keys
pub members_are : (path : List ℕ) (known : List (List ℕ)) (d : Data) (ms : List (String Global × Value)) (u : Option (List ℕ)) → Some (members_view ms) ≡ as_object d
    → u ≡ first_unknown known (map string_bytes (map (λ m. m.0) ms)) → members_of path known d ≡ Ok (record { path = path; value = d; unknown = u })
unfolding members_of
members_are path known d ms u o is = rw (← o, names_are ms, is) refl
