-- What a file's entries and defaults make of the tables of a switch. Read `Entries` of entry_parts
-- and `State` and `Faults` of p4_tables before it, and `Entries` after it.
use Rattle.std.specs.Prelude.{ℕ, ◌==◌, List, [], ◌∷◌, Bool, true, false, codes, Option, Some, None, is_some, Result, Ok, Err}
use Rattle.std.specs.List.{before_first}
use Rattle.serde_json.specs.Data.{Data}
use Rattle.serde_json.specs.Find.{get}
use Rattle.json_parts.specs.Answers.{◌>>=◌, with_fault}
use Rattle.json_parts.specs.Object.{Object, members_of, maybe_at, end_of}
use Rattle.json_parts.specs.Paths.{below, item_below}
use Rattle.json_parts.specs.Turns.{in_turn}
use Rattle.json_values.specs.Words.{list_at}
use Rattle.table_faults.specs.declared.entry.EntryFault.{EntryFault}
use Rattle.table_faults.specs.declared.table.TableFault.{TableFault}
use Rattle.table_faults.specs.declared.table.TableFault.TheVariants as fault
use Rattle.p4_tree.specs.Tree.{Program}
use Rattle.p4_types.specs.Numbers.{tables, actions, names, number_in}
use Rattle.table_entries.specs.Entries.{Entry, Act}
use Rattle.p4_tables.specs.State.{Held, held_at, inserted, with_default}
use Rattle.p4_tables.specs.Faults.{entry_fault, default_fault}
use Rattle.json_values.specs.Words.{fault_of}
use Rattle.entry_parts.specs.Entries.{entry_of, default_of}

-- a table of a program: its number, the name of its control, and the names of all actions
pub record Place : Type 0 where
  pub table : ℕ
  pub control : List ℕ
  pub actions : List (List ℕ)

-- a table refuses what is at a path
abbrev pub refused_by : (path : List ℕ) → Option EntryFault → List Held → Result (List Held) TableFault
refused_by path None st = Ok st
refused_by path (Some f) st = Err (fault.Entry path f)

-- ---- entries

-- an entry goes behind those that its table holds
abbrev pub put_entry : (path : List ℕ) → (table : ℕ) → List Held → Entry → Result (List Held) TableFault
put_entry path n st e = refused_by path (entry_fault st n e) (inserted st n e)

unfoldable pub with_entry : Place → (path : List ℕ) → List Held → (number : ℕ) → Data → Result (List Held) TableFault
with_entry p path st i d = do
  e ← entry_of p.actions p.control (held_at st p.table).shape (item_below path i) d
  put_entry (item_below path i) p.table st e

abbrev pub with_list : Place → (path : List ℕ) → List Held → List Data → Result (List Held) TableFault
with_list p path st ds = in_turn (with_entry p path) st 0 ds

abbrev pub entries_from : Place → (path : List ℕ) → List Held → Option Data → Result (List Held) TableFault
entries_from p path st None = Ok st
entries_from p path st (Some d) = list_at path d >>= with_list p path st

-- ---- a default

-- a table has this default
abbrev pub put_default : (path : List ℕ) → (table : ℕ) → List Held → Act → Result (List Held) TableFault
put_default path n st a = refused_by path (default_fault st n a) (with_default st n a)

abbrev pub default_from : Place → (path : List ℕ) → List Held → Option Data → Result (List Held) TableFault
default_from p path st None = Ok st
default_from p path st (Some d) = default_of p.actions p.control (held_at st p.table).shape path d >>= put_default path p.table st

-- ---- a table

-- `{"entries": [entry, ..], "default": default}`, where both may be absent. Against the byte order of
-- their names the default comes behind the entries, where entries stand there
unfoldable pub with_entries : Place → (path : List ℕ) → Object → List Held → Result (List Held) TableFault
with_entries p path o st = do
  d ← with_fault fault_of (maybe_at o (codes "entries"))
  entries_from p (below path (codes "entries")) st d

unfoldable pub with_default_of : Place → (path : List ℕ) → Object → List Held → Result (List Held) TableFault
with_default_of p path o st = do
  d ← with_fault fault_of (maybe_at o (codes "default"))
  default_from p (below path (codes "default")) st d

abbrev pub with_entries_if : (there : Bool) → Place → (path : List ℕ) → Object → List Held → Result (List Held) TableFault
with_entries_if false p path o st = Ok st
with_entries_if true p path o st = with_entries p path o st

unfoldable pub with_members : Place → (path : List ℕ) → List Held → Data → Result (List Held) TableFault
with_members p path st d = do
  members ← with_fault fault_of (members_of path (codes "default" ∷ codes "entries" ∷ []) d)
  listed ← with_entries_if (is_some (get (codes "entries") d)) p path members st
  whole ← with_default_of p path members listed
  rest ← with_fault fault_of (end_of members)
  Ok whole

-- ---- the tables of a switch

-- of a name `Control.table` the name of the control
abbrev pub control_of : List ℕ → List ℕ
control_of x = before_first (λ b. b == 46) x

abbrev pub place_of : Program → (name : List ℕ) → (table : ℕ) → Place
place_of p x n = record { table = n; control = control_of x; actions = names actions p }

abbrev pub table_from : Program → (path name : List ℕ) → List Held → Data → (table : Option ℕ) → Result (List Held) TableFault
table_from p path x st d None = Err (fault.NoSuchTable path)
table_from p path x st d (Some n) = with_members (place_of p x n) path st d

-- a table by its name, with what a file says of it
unfoldable pub with_table : Program → (path : List ℕ) → List Held → List ℕ × Data → Result (List Held) TableFault
with_table p path st f = table_from p (below path f.0) f.0 st f.1 (number_in (names tables p) f.0)
