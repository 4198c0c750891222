-- What a table answers for its keys. Read `State` before it.
use Rattle.std.specs.Prelude.{◌≡◌, ℕ, List, map, Some, None}
use Rattle.bit_values.specs.Bits.{Word}
use Rattle.p4_meaning.specs.Choice.{IsChosen, IsChoice, choice_of}
use Rattle.table_shapes.specs.Shapes.{has_ternary}
use Rattle.table_entries.specs.Entries.{Entry, Act, named}
use Rattle.p4_tables.specs.State.{Held}

-- some entry is chosen, whatever actions are called, and the answer is its action with its arguments
pub record IsHit (h : Held) (keys : List Word) (answer : Act) : Type 0 where
  pub entry : Entry
  pub action : answer.action ≡ entry.action
  pub args : answer.args ≡ entry.args
  pub chosen : (name : ℕ → List ℕ) → IsChosen (has_ternary h.shape.keys) (map (named name) h.listed) keys (named name entry)
  -- of several that are chosen, which there are for keys of other widths alone, the first that came
  pub first : (name : ℕ → List ℕ) → choice_of (has_ternary h.shape.keys) (map (named name) h.listed) keys ≡ Some (named name entry)

-- no entry is chosen, whatever actions are called, and the answer is the default
pub record IsMiss (h : Held) (keys : List Word) (answer : Act) : Type 0 where
  pub default : answer ≡ h.default
  pub chosen : (name : ℕ → List ℕ) → IsChoice (has_ternary h.shape.keys) (map (named name) h.listed) keys None
