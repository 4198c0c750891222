-- What tables hold by the full names of tables and of actions, as the meaning has it. Read `Programs` before it, and
-- `Tables` and `Parts` of the meaning.
use Rattle.std.specs.Prelude.{ℕ, zero, suc, codes, List, [], ◌∷◌, map, if◌then◌else◌}
use Rattle.lex_text.specs.Names.{same_text}
use Rattle.p4_meaning.specs.Actions.{Action}
use Rattle.p4_meaning.specs.Tables.{Table, Chosen, Entries, Tables}
use Rattle.p4_meaning.specs.Parts.{Parts}
use Rattle.table_entries.specs.Entries.{Act, named}
use Rattle.p4_tables.specs.State.{Held}

-- the full name of the action of a number; behind all actions it is `NoAction`
abbrev pub action_name : List Action → ℕ → List ℕ
action_name [] n = codes "NoAction"
action_name (a ∷ as') zero = a.name
action_name (a ∷ as') (suc n) = action_name as' n

-- an action with its name in the place of the number
abbrev pub named_act : (ℕ → List ℕ) → Act → Chosen
named_act name a = record { action = name a.action; args = a.args }

-- what a table holds, with the names of actions
abbrev pub entries_named : (ℕ → List ℕ) → Held → Entries
entries_named name h = record { listed = map (named name) h.listed; default = named_act name h.default }

-- what is held of a table that is not there
abbrev pub nothing_held : Entries
nothing_held = record { listed = []; default = record { action = codes "NoAction"; args = [] } }

-- what each table holds, by its name
abbrev pub tables_named : (ℕ → List ℕ) → List Table → List Held → Tables
tables_named name [] hs x = nothing_held
tables_named name (t ∷ ts) [] x = nothing_held
tables_named name (t ∷ ts) (h ∷ hs) x = if same_text t.name x then entries_named name h else tables_named name ts hs x

-- what the tables of a program with these parts hold
abbrev pub tables_in : Parts → List Held → Tables
tables_in p st = tables_named (action_name p.actions) p.tables st

-- the number of the table of a full name
abbrev pub table_place : List Table → List ℕ → ℕ
table_place [] x = 0
table_place (t ∷ ts) x = if same_text t.name x then 0 else suc (table_place ts x)
