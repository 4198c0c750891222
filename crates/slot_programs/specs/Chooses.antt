-- When tables choose by numbers what they choose by names. Read `Callees` of `slot_controls` before it, and `Tables` of the
-- trees' meaning; `CodesOf` after it.
use Rattle.std.specs.Prelude.{◌≡◌, ℕ, List, map, Some}
use Rattle.bit_values.specs.Bits.{Word}
use Rattle.p4_meaning.specs.Actions.{Action}
use Rattle.p4_meaning.specs.Tables.{Table, Tables, table_named}
use Rattle.p4_meaning.specs.Parts.{Parts}
use Rattle.p4_statements.specs.Outcomes.{outcome_in}
use Rattle.slot_statements.specs.Tables.{NumberedOutcome}
use Rattle.slot_controls.specs.Callees.{IsChoice, table_number}
pub use Rattle.slot_controls.specs.Callees.{may_run, RunsOwn}

-- the names of actions
abbrev pub names_of : List Action → List (List ℕ)
names_of as' = map (λ a. a.name) as'

-- the tables of a program hold this, and by their numbers choose this: they run actions of their lists, and whatever actions
-- of the program's names do, the choice by numbers is the one by names
pub record Chooses (p : Parts) (held : Tables) (chosen : ℕ → List Word → NumberedOutcome) : Type 0 where
  pub own : (x : List ℕ) (t : Table) → table_named p.tables x ≡ Some t → RunsOwn p.actions t (held x)
  pub numbers : (as' : List Action) → names_of as' ≡ names_of p.actions → (x : List ℕ) (t : Table) (ws : List Word) → table_named p.tables x ≡ Some t → IsChoice as' (chosen (table_number p.tables x) ws) (outcome_in as' (Some t) (held x) ws)
