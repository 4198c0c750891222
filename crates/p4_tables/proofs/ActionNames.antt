-- The names of actions by their numbers.
use Rattle.std.proofs.Common.{◌≡◌, ℕ, zero, suc, ◌<◌, ◌≤◌, Bool, true, false, cond, Option, Some, None, option_map, List, [], ◌∷◌, codes, length, map, get_or, refl, sym, ap, arith}
use Rattle.p4_parts.specs.PartsIn.{action_in}
use Rattle.p4_parts.specs.declared.parts.Action as code_action
use Rattle.lex_text.specs.Names.{same_text}
use Rattle.p4_parts.specs.Places.{first_in, action_names}
use Rattle.p4_parts.proofs.Placed.{place_or, place_step}
use Rattle.p4_tables.specs.Programs.{action_place}
use Rattle.p4_tables.specs.Named.{action_name}

pub name_there : (as' : List code_action.Action) (n : ℕ) (a : code_action.Action) → n < length as' → a ≡ get_or as' n a → action_name (map action_in as') n ≡ a.name
name_there [] n a lt e = absurd (omega arith)
name_there (b ∷ bs) zero a lt e = ap (λ (c : code_action.Action). c.name) (sym e)
name_there (b ∷ bs) (suc n) a lt e = name_there bs n a (omega arith) e

pub none_numbered : (as' : List code_action.Action) (n : ℕ) → length as' ≤ n → action_name (map action_in as') n ≡ codes "NoAction"
none_numbered [] n le = refl
none_numbered (b ∷ bs) zero le = absurd (omega arith)
none_numbered (b ∷ bs) (suc n) le = none_numbered bs n (omega arith)

-- ---- places by a table

pub placed : (as' : List code_action.Action) (x : List ℕ) → place_or (length as') (first_in (action_names as') x) ≡ action_place (map action_in as') x
placed [] x = refl
placed (a ∷ as') x = place_step (length as') (action_place (map action_in as') x) (same_text a.name x) (first_in (action_names as') x) (placed as' x)
