-- Names in order, and tables of the place of the first of each name.
use Rattle.std.specs.Prelude.{◌≡◌, ℕ, suc, List, [], ◌∷◌, map, String, Option, Some, None, if◌then◌else◌}
use Rattle.std.specs.Option.{option_map}
use Rattle.std.specs.declared.alloc.Global.{Global}
use Rattle.lex_text.specs.Names.{same_text}
use Rattle.p4_resolved.specs.Rows.{at_name}
use Rattle.p4_parts.specs.declared.parts.Action as code_action

-- the place of the first of these names that is this
abbrev pub first_in : List (List ℕ) → List ℕ → Option ℕ
first_in [] x = None
first_in (y ∷ ys) x = if same_text y x then Some 0 else option_map suc (first_in ys x)

-- a table tells it
abbrev pub Tells : List (String Global × ℕ) → List (List ℕ) → Type 0
Tells es ys = (x : List ℕ) → at_name es x ≡ first_in ys x

-- the names of actions
abbrev pub action_names : List code_action.Action → List (List ℕ)
action_names as' = map (λ a. a.name) as'
