-- In the linked program of each switch the tables of the monitor's map have the forms that are given for their control
-- variables, so that contents can be put into them. Read `Places` before it, `Trees` of `lower_blocks`, and `Numbers` of
-- `control_maps`.
use Rattle.std.specs.Prelude.{◌≡◌, ℕ, ◌<◌, ◌^◌, List, ◌++◌, map, Option, Some, None}
use Rattle.std.specs.List.{AllByRecursion}
use Rattle.indus_tree.specs.Tree.{Property, Decl}
use Rattle.indus_tree.specs.Hops.{variable_number}
use Rattle.p4_tree.specs.Tree.{Program}
use Rattle.p4_meaning.specs.Parts.{Parts, parts_of}
use Rattle.p4_tables.specs.State.{Held, held_at}
use Rattle.p4_tables.specs.Named.{table_place}
use Rattle.p4_tables.specs.Programs.{action_place, state_before, IsStateOf}
use Rattle.network_run.specs.Network.{Wiring}
use Rattle.linked_hosts.specs.Linkable.{Linkable}
use Rattle.tree_linkage.specs.Trees.{linked_form, linked_trees}
use Rattle.lowered_code.specs.Names.{table_name, action_name}
use Rattle.whole_properties.specs.Whole.{Given, lower_monitor}
use Rattle.lower_blocks.specs.Trees.{entry_lookups, exit_lookups}
use Rattle.control_maps.specs.Numbers.{Numbered, IsMapOf}
use Rattle.linked_properties.specs.Linked.{CanBeLinked, given_in, trees_in}

abbrev pub number_or : Option ℕ → ℕ
number_or None = 0
number_or (Some n) = n

-- a row of the map that a property lowers to (`mapped` of `lower_blocks`), by the numbers of a program with these parts: the table
-- of a lookup in a control, its first action, and the number and the shape of the variable
abbrev pub row_in : Parts → Property → (control : List ℕ) → ℕ × Decl → Numbered
row_in q p c l =
    record {
      table = table_place q.tables (table_name c l.0);
      action = action_place q.actions (action_name c l.0);
      variable = number_or (variable_number p.decls (l.1).name);
      shape = (l.1).shape;
    }

-- the whole map
abbrev pub map_in : Parts → Given → List Numbered
map_in q g = map (row_in q g.property g.ingress) (entry_lookups g) ++ map (row_in q g.property g.egress) (exit_lookups g)

-- these tables have the defaults that are written for them
abbrev pub HaveWritten : Program → List Held → List Numbered → Type 0
HaveWritten q st ns = AllByRecursion (λ n. (held_at st n.table).default ≡ (held_at (state_before q) n.table).default) ns

-- so it is whatever other tables hold, and whatever entries these hold
abbrev pub MonitorTablesHaveForm : Type 0
MonitorTablesHaveForm =
    (property : Property) (f : Program) (room : ℕ) → CanBeLinked property f room →
    (k : Linkable (linked_form f)) (net : Wiring) (s : ℕ) → s < 2 ^ 16 →
    (let g = given_in property f k in
    let q = linked_trees (trees_in property f k) (lower_monitor g) f net s in
    (st : List Held) → IsStateOf q st → HaveWritten q st (map_in (parts_of q) g) → IsMapOf (parts_of q) st (map_in (parts_of q) g))
