-- The lines of generated tables: `Control.table`, a space, and the variable whose contents the table holds. Read `Rows` of
-- loaded_tables before it.
use Rattle.std.specs.Prelude.{ℕ, List, [], ◌++◌, codes, Option, Some, None, slice_get}
use Rattle.std.specs.List.{flat_map}
use Rattle.indus_tree.specs.Tree.{Decl}
use Rattle.loaded_tables.specs.Rows.{Row}

-- the name of the variable of a number; nothing where there is none
abbrev pub name_or : Option Decl → List ℕ
name_or None = []
name_or (Some d) = d.name

abbrev pub variable_name : List Decl → ℕ → List ℕ
variable_name ds v = name_or (slice_get ds v)

abbrev pub table_line : List Decl → Row → List ℕ
table_line ds r = r.0 ++ (codes "." ++ (r.1 ++ (codes " " ++ (variable_name ds r.2 ++ codes "\n"))))

abbrev pub tables_lines : List Decl → List Row → List ℕ
tables_lines ds rows = flat_map (table_line ds) rows
