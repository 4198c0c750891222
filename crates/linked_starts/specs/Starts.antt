-- The linked program of each switch can be loaded: what is asked of it and of its map, before the tables of the given program
-- and contents of control variables go into it, holds. Read `Rows` and `Loading` of `loaded_tables` before it, `Linked` of
-- `linked_properties`, and `Trees` of `lower_blocks`.
use Rattle.std.specs.Prelude.{◌≡◌, ℕ, ◌<◌, ◌^◌, List, ◌++◌, map, Option, Some}
use Rattle.indus_tree.specs.Tree.{Property, Decl}
use Rattle.p4_tree.specs.Tree.{Program}
use Rattle.p4_meaning.specs.Parts.{parts_of}
use Rattle.network_run.specs.Network.{Wiring}
use Rattle.linked_hosts.specs.Linkable.{Linkable}
use Rattle.tree_linkage.specs.Trees.{linked_form, linked_trees}
use Rattle.whole_properties.specs.Whole.{Given, lower_monitor}
use Rattle.lower_blocks.specs.Trees.{mapped, entry_lookups, exit_lookups}
use Rattle.linked_properties.specs.Linked.{CanBeLinked, given_in, trees_in}
use Rattle.loaded_tables.specs.Rows.{Row, IsNumberedMap}
use Rattle.loaded_tables.specs.Loading.{AreNew, AddsOnly}

-- a row with its number as that of a variable that is declared
abbrev pub found_row : Row → List ℕ × (List ℕ × Option ℕ)
found_row r = (r.0, (r.1, Some r.2))

-- these are the rows of the map that a property lowers to: ingress's, then egress's
abbrev pub AreRowsOf : Given → List Row → Type 0
AreRowsOf g rows = map found_row rows ≡ mapped g.property g.ingress (entry_lookups g) ++ mapped g.property g.egress (exit_lookups g)

-- a program with a map can be loaded for a given program
pub record CanBeLoaded (given program : Program) (decls : List Decl) (rows : List Row) : Type 0 where
  -- the rows are a map of its tables, and their variables are declared
  pub map : IsNumberedMap program decls rows
  -- no row's table is one of the given program's
  pub new : AreNew (parts_of given).tables rows
  -- it has no other tables than those and the rows'
  pub own : AddsOnly (parts_of given).tables (parts_of program).tables rows

-- f: the program as it is given, with its exits
abbrev pub LinkedCanBeLoaded : Type 0
LinkedCanBeLoaded =
    (property : Property) (f : Program) (room : ℕ) → CanBeLinked property f room →
    (k : Linkable (linked_form f)) (net : Wiring) (s : ℕ) → s < 2 ^ 16 →
    (rows : List Row) → AreRowsOf (given_in property f k) rows →
    CanBeLoaded f (linked_trees (trees_in property f k) (lower_monitor (given_in property f k)) f net s) property.decls rows
