-- What one table keeps beside what it holds, and the entry that clashes with it. Read `State` before it.
use Rattle.std.specs.Prelude.{◌&&◌, map, Option, Some, None, if◌then◌else◌}
use Rattle.table_shapes.specs.Shapes.{has_ternary}
use Rattle.table_entries.specs.Entries.{Entry, has_same, has_priority}
use Rattle.table_entries.specs.View.{entry_of}
use Rattle.table_entries.specs.Index.{IsIndex}
use Rattle.p4_tables.specs.State.{Held}
use Rattle.p4_tables.specs.declared.held.Held.TheInside.{Inside}
use Rattle.table_faults.specs.declared.entry.EntryFault.{EntryFault}
use Rattle.table_faults.specs.declared.entry.EntryFault.TheVariants.{SameEntry, SamePriority}

-- the index of a table is one of its entries
abbrev pub IsIndexed : Inside → Type 0
IsIndexed h = IsIndex h.shape.keys.items (has_ternary h.shape.keys.items) (map entry_of h.listed.items) h.index

-- the first reason for which an entry clashes with those that a table holds
abbrev pub clash_in : Held → Entry → Option EntryFault
clash_in h e =
    if has_same (has_ternary h.shape.keys) h.listed e then Some SameEntry else
    if has_ternary h.shape.keys && has_priority h.listed e.priority then Some SamePriority else None
