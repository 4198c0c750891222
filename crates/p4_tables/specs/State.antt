-- What the tables of a switch hold, by their numbers. Read `Entries` before it and `Faults` after it.
use Rattle.std.specs.Prelude.{ℕ, ◌+◌, List, [], ◌∷◌, ◌++◌, length, false, get_or, set, Option, Some, None}
use Rattle.table_shapes.specs.Shapes.{Shape}
use Rattle.table_entries.specs.Entries.{Entry, Act}

-- a table: what it takes, its entries in the order in which they came, and what it runs where none fits
pub record Held : Type 0 where
  pub shape : Shape
  pub listed : List Entry
  pub default : Act

-- the default that is written
abbrev pub written_in : Shape → Act
written_in s = record { action = s.written; args = s.written_args }

-- no table
abbrev pub no_table : Held
no_table = record { shape = record { keys = []; actions = []; written = 0; written_args = []; fixed = false }; listed = []; default = record { action = 0; args = [] } }

-- the table of a number
abbrev pub held_at : List Held → ℕ → Held
held_at st n = get_or st n no_table

-- the number of entries of all tables
abbrev pub entries_in : List Held → ℕ
entries_in [] = 0
entries_in (h ∷ hs) = length h.listed + entries_in hs

-- one table holds these entries
abbrev pub with_listed : List Held → (table : ℕ) → List Entry → List Held
with_listed st n es = set st n (record (held_at st n) { listed = es })

-- an entry goes behind those that one table holds
abbrev pub inserted : List Held → (table : ℕ) → Entry → List Held
inserted st n e = with_listed st n ((held_at st n).listed ++ e ∷ [])

-- one table has this default
abbrev pub with_default : List Held → (table : ℕ) → Act → List Held
with_default st n d = set st n (record (held_at st n) { default = d })

-- one table holds these entries, and has this default, or where none is given the one that it had
abbrev pub replaced : List Held → (table : ℕ) → List Entry → Option Act → List Held
replaced st n es None = with_listed st n es
replaced st n es (Some d) = with_default (with_listed st n es) n d
