-- What the table of a control variable holds for the contents of the variable. Read `Tables` before it and `Laws` after
-- it.
use Rattle.std.specs.Prelude.{ℕ, List, [], ◌∷◌, map, Option, Some, None}
use Rattle.bit_values.specs.Bits.{Word}
use Rattle.indus_tree.specs.State.{Contents, single, members, pairs}
use Rattle.p4_meaning.specs.Choice.{exact}
use Rattle.table_entries.specs.Entries.{Entry, Act}

-- the entry of a key: it runs the table's first action with these arguments
abbrev pub entry_for : (action : ℕ) → (key args : List Word) → Entry
entry_for a key args = record { keys = map exact key; action = a; args = args; priority = 0 }

-- an entry for each key of a set, and for each pair of a dict with the value as its argument; none for a scalar
abbrev pub entries_for : (action : ℕ) → Contents → List Entry
entries_for a (single w) = []
entries_for a (members ks) = map (λ k. entry_for a k []) ks
entries_for a (pairs es) = map (λ e. entry_for a e.0 (e.1 ∷ [])) es

-- the default of a scalar's table is the first action with the value; a set's and a dict's keep the miss
abbrev pub default_for : (action : ℕ) → Contents → Option Act
default_for a (single w) = Some (record { action = a; args = w ∷ [] })
default_for a (members ks) = None
default_for a (pairs es) = None
