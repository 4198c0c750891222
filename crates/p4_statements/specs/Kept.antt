-- What holds of registers. Read `Cells` before it.
use Rattle.p4_parts.specs.Places.{Tells}
use Rattle.p4_statements.specs.Cells.{Rows, names_in}
use Rattle.p4_statements.specs.declared.registers.Registers.TheInside.{Inside}

-- the names with their cells
abbrev pub rows_of : Inside → Rows
rows_of r = r.rows.items

-- the table has the place of the first of each name
abbrev pub IsKept : Inside → Type 0
IsKept r = Tells r.places.entries (names_in r.rows.items)
