-- Things with keys that differ, in turn: the table holds the keys of what was found.
use Rattle.std.proofs.Common.{◌≡◌, ℕ, ◌+◌, ◌<◌, List, [], ◌∷◌, ◌++◌, map, length, drop, get_or, Result, Ok, Err, Vec, Global, refl}
use Rattle.std.proofs.lemmas.List.{map_push}
use Rattle.serde_json.specs.Data.{Data}
use Rattle.serde_json.specs.View.{view}
use Rattle.serde_json.specs.declared.value.Value.{Value}
use Rattle.table_faults.specs.declared.table.TableFault.{TableFault}
use Rattle.json_parts.specs.Turns.{in_turn}
use Rattle.json_parts.proofs.TurnLemmas.{turn_more, turn_stop}
use Rattle.control_file.specs.Contents.{with_new}
use Rattle.control_file.specs.Views.{seen_numbers}

module _ {B V : Type 0} (numbers : B → List ℕ) (read : ℕ → List (List ℕ) → Data → Result B TableFault) (see : V → B) (found : List V) (seen : List (Vec ℕ Global)) (same : seen_numbers seen ≡ map numbers (map see found)) where
  -- the i-th value is met
  module _ (i : ℕ) (xs : List Value) (d : Value) (total : Result (List B) TableFault) (lt : i < length xs)
      (so_far : in_turn (with_new numbers read) (map see found) i (drop i (map view xs)) ≡ total) where
    pub new_more : (y : V) → read i (seen_numbers seen) (view (get_or xs i d)) ≡ Ok (see y)
        → in_turn (with_new numbers read) (map see (found ++ y ∷ [])) (i + 1) (drop (i + 1) (map view xs)) ≡ total
    new_more y is =
        let step : with_new numbers read (map see found) i (view (get_or xs i d)) ≡ Ok (map see (found ++ y ∷ [])) = rw (← same, is, map_push see found y) refl in
        turn_more (with_new numbers read) view (map see found) i xs d total (map see (found ++ y ∷ [])) lt step so_far

    pub new_stop : (e : TableFault) → read i (seen_numbers seen) (view (get_or xs i d)) ≡ Err e → total ≡ Err e
    new_stop e is =
        let step : with_new numbers read (map see found) i (view (get_or xs i d)) ≡ Err e = rw (← same, is) refl in
        turn_stop (with_new numbers read) view (map see found) i xs d total e lt step so_far

  pub seen_more : (more : List (Vec ℕ Global)) (y : V) → seen_numbers more ≡ seen_numbers seen ++ numbers (see y) ∷ [] → seen_numbers more ≡ map numbers (map see (found ++ y ∷ []))
  seen_more more y is = rw (map_push see found y, map_push numbers (map see found) (see y), is, same) refl
