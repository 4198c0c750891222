-- What the application of a table chooses. Read `Tables` of the trees' meaning before it.
use Rattle.std.specs.Prelude.{codes, ℕ, List, [], Bool, true, false, Option, Some, None}
use Rattle.std.specs.Option.{option_map}
use Rattle.bit_values.specs.Bits.{Word}
use Rattle.p4_meaning.specs.Choice.{Entry, choice_of}
use Rattle.p4_meaning.specs.Actions.{Action, action_named}
use Rattle.p4_meaning.specs.Tables.{Table, Tables, Entries, has_ternary, table_named}
use Rattle.p4_meaning.specs.Parts.{Parts}
use Rattle.p4_resolved.specs.Lent.{lent}
use Rattle.p4_parts.specs.PartsIn.{action_in}
use Rattle.p4_statements.specs.declared.outcome.Outcome as code_outcome

-- the action that runs, where there is one, the words for its parameters, and whether an entry fits
pub record Outcome : Type 0 where
  pub action : Option Action
  pub args : List Word
  pub hit : Bool

-- of the entry that is chosen, or else of the default
abbrev pub outcome_from : List Action → Entries → Option Entry → Outcome
outcome_from as' h None = record { action = action_named as' h.default.action; args = h.default.args; hit = false }
outcome_from as' h (Some e) = record { action = action_named as' e.action; args = e.args; hit = true }

-- of a table that holds this, for these keys; nothing where there is no table
abbrev pub outcome_in : List Action → Option Table → Entries → (keys : List Word) → Outcome
outcome_in as' None h ks = record { action = None; args = []; hit = false }
outcome_in as' (Some t) h ks = outcome_from as' h (choice_of (has_ternary t.keys) h.listed ks)

-- of the table of a full name, where a program's tables hold this
abbrev pub outcome_at : Parts → Tables → List ℕ → (keys : List Word) → Outcome
outcome_at p held x ks = outcome_in p.actions (table_named p.tables x) (held x) ks

-- what a table holds where nothing is loaded
abbrev pub written : Option Table → Entries
written None = record { listed = []; default = record { action = codes "NoAction"; args = [] } }
written (Some t) = record { listed = []; default = t.default }

-- the same as the code has it
abbrev pub outcome_of : code_outcome.Outcome → Outcome
outcome_of o = record { action = option_map action_in (lent o.action); args = o.args.now; hit = o.hit }
