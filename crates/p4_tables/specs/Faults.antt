-- Why an entry or a default is refused. Read `State` before it and `Answers` after it.
use Rattle.std.specs.Prelude.{◌≡◌, ℕ, List, [], ◌∷◌, Bool, not, ◌&&◌, nat_le, if◌then◌else◌, Option, Some, None}
use Rattle.table_shapes.specs.Shapes.{Shape, has_ternary, are_for_keys, has_action, takes}
use Rattle.table_entries.specs.Entries.{Entry, Act, has_same, has_priority}
use Rattle.p4_tables.specs.State.{Held, held_at, entries_in, with_listed, inserted}
use Rattle.table_faults.specs.declared.entry.EntryFault.{EntryFault}
use Rattle.table_faults.specs.declared.entry.EntryFault.TheVariants.{NoSuchAction, WidthDiffers, SameEntry, SamePriority, TableLimit, ConstDefault}

-- a table takes this entry: as many keys of their kinds and widths, and an action of its list with arguments of the
-- widths of its parameters
abbrev pub takes_entry : Shape → Entry → Bool
takes_entry s e = are_for_keys s.keys e.keys && takes s.actions e.action e.args

-- the first reason, in this order, for which a table refuses an entry where all tables hold so many
abbrev pub fault_in : Held → (entries : ℕ) → Entry → Option EntryFault
fault_in h count e =
    if not (has_action h.shape.actions e.action) then Some NoSuchAction else
    if not (takes_entry h.shape e) then Some WidthDiffers else
    if has_same (has_ternary h.shape.keys) h.listed e then Some SameEntry else
    if has_ternary h.shape.keys && has_priority h.listed e.priority then Some SamePriority else
    if nat_le 65536 count then Some TableLimit else None

-- the reason for which an entry is refused in the table of a number
abbrev pub entry_fault : List Held → (table : ℕ) → Entry → Option EntryFault
entry_fault st n e = fault_in (held_at st n) (entries_in st) e

-- the first reason, in this order, for which a table refuses a default
abbrev pub default_fault_in : Shape → Act → Option EntryFault
default_fault_in s d =
    if not (has_action s.actions d.action) then Some NoSuchAction else
    if not (takes s.actions d.action d.args) then Some WidthDiffers else
    if s.fixed then Some ConstDefault else None

-- the reason for which a default is refused in the table of a number
abbrev pub default_fault : List Held → (table : ℕ) → Act → Option EntryFault
default_fault st n d = default_fault_in (held_at st n).shape d

-- no entry is refused where they are inserted one by one, in this order
abbrev pub AreAccepted : List Held → (table : ℕ) → List Entry → Type 0
AreAccepted st n [] = Unit {0}
AreAccepted st n (e ∷ es) = (entry_fault st n e ≡ None) × AreAccepted (inserted st n e) n es

-- a default that is given is not refused
abbrev pub IsAccepted : List Held → (table : ℕ) → Option Act → Type 0
IsAccepted st n None = Unit {0}
IsAccepted st n (Some d) = default_fault st n d ≡ None

-- the entries are taken by the emptied table, and then the default, where one is given
pub record IsReplaceable (st : List Held) (table : ℕ) (es : List Entry) (d : Option Act) : Type 0 where
  pub entries : AreAccepted (with_listed st table []) table es
  pub default : IsAccepted (with_listed st table es) table d
