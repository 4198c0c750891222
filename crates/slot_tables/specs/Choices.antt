-- What the tables of a switch choose by their numbers. Read `Named` and `Laws` of `p4_tables` before it, and `Chooses` of
-- `slot_programs`.
use Rattle.std.specs.Prelude.{ℕ, List, [], ◌∷◌, map, get_or, true, false, Option, Some, None}
use Rattle.bit_values.specs.Bits.{Word}
use Rattle.p4_tree.specs.Tree.{Program}
use Rattle.p4_meaning.specs.Choice.{Entry, choice_of}
use Rattle.p4_meaning.specs.Parts.{parts_of}
use Rattle.table_shapes.specs.Shapes.{has_ternary}
use Rattle.table_entries.specs.Entries.{Act, named}
use Rattle.p4_tables.specs.State.{Held, held_at}
use Rattle.p4_tables.specs.Named.{tables_in}
use Rattle.p4_tables.specs.Programs.{IsStateOf}
use Rattle.p4_tables.specs.Laws.{RunsListed}
use Rattle.slot_statements.specs.Tables.{NumberedOutcome}
use Rattle.slot_programs.specs.Chooses.{Chooses}

-- the name of an action that tells its number
abbrev pub number_name : ℕ → List ℕ
number_name n = n ∷ []

-- the entry that is chosen, or else the default
abbrev pub numbered_from : (default : Act) → Option Entry → NumberedOutcome
numbered_from d None = record { action = d.action; args = d.args; hit = false }
numbered_from d (Some e) = record { action = get_or e.action 0 0; args = e.args; hit = true }

-- what a table chooses for these keys
abbrev pub choice_in : Held → (keys : List Word) → NumberedOutcome
choice_in h ks = numbered_from h.default (choice_of (has_ternary h.shape.keys) (map (named number_name) h.listed) ks)

-- what the table of a number chooses
abbrev pub choices_in : List Held → (table : ℕ) → (keys : List Word) → NumberedOutcome
choices_in st n ks = choice_in (held_at st n) ks

-- tables of a program choose by numbers what they choose by names
abbrev pub TablesChoose : Type 0
TablesChoose = (p : Program) (st : List Held) → IsStateOf p st → RunsListed st → Chooses (parts_of p) (tables_in (parts_of p) st) (choices_in st)
