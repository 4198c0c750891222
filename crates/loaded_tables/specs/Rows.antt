-- The rows of a map of generated tables, by the numbers of a program's tables. Read `Numbers` of `control_maps` and `Programs` of
-- `p4_tables` before it, and `Loading` after it.
use Rattle.std.specs.Prelude.{ℕ, ◌<◌, List, [], length, map, get_or}
use Rattle.std.specs.List.{AllByRecursion}
use Rattle.p4_tree.specs.Tree.{Program}
use Rattle.p4_meaning.specs.Parts.{parts_of}
use Rattle.p4_meaning.specs.Scope.{full}
use Rattle.p4_meaning.specs.Tables.{Table}
use Rattle.table_shapes.specs.Shapes as table
use Rattle.p4_tables.specs.State.{no_table}
use Rattle.p4_tables.specs.Named.{table_place}
use Rattle.p4_tables.specs.Programs.{state_before, shapes}
use Rattle.indus_tree.specs.Tree.{Shape, set, Decl}
use Rattle.control_maps.specs.Numbers.{Numbered, IsMapOf}

-- a control, a table in it, and the number of the control variable whose contents the table holds
abbrev pub Row : Type 0
Row = List ℕ × List ℕ × ℕ

-- the full name of the table, and its number
abbrev pub row_name : Row → List ℕ
row_name r = full r.0 r.1

abbrev pub row_place : List Table → Row → ℕ
row_place ts r = table_place ts (row_name r)

-- the number of a table's first action
abbrev pub first_action : table.Shape → ℕ
first_action s = get_or (map (λ a. a.number) s.actions) 0 0

-- the shape that is declared for the variable of a number
abbrev pub declared_shape : List Decl → ℕ → Shape
declared_shape ds v = get_or (map (λ d. d.shape) ds) v (set [])

-- the table by its number, among tables that take this
abbrev pub numbered_row : List Table → List table.Shape → List Decl → Row → Numbered
numbered_row ts ss ds r =
    record {
      table = row_place ts r;
      action = first_action (get_or ss (row_place ts r) no_table.shape);
      variable = r.2;
      shape = declared_shape ds r.2;
    }

-- the rows of a map in a program
abbrev pub numbered_rows : Program → List Decl → List Row → List Numbered
numbered_rows p ds rows = map (numbered_row (parts_of p).tables (shapes (state_before p)) ds) rows

-- the rows are a map of the program's tables, and their variables are declared
pub record IsNumberedMap (p : Program) (ds : List Decl) (rows : List Row) : Type 0 where
  pub map : IsMapOf (parts_of p) (state_before p) (numbered_rows p ds rows)
  pub declared : AllByRecursion (λ r. r.2 < length ds) rows
