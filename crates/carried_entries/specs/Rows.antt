-- What is carried from the given program into a linked one stays out of the monitor's tables. Read `Forms` before it.
use Rattle.std.specs.Prelude.{◌≢◌, ℕ, ◌<◌, ◌^◌, List}
use Rattle.std.specs.List.{AllByRecursion}
use Rattle.indus_tree.specs.Tree.{Property}
use Rattle.p4_tree.specs.Tree.{Program}
use Rattle.p4_meaning.specs.Parts.{Parts, parts_of}
use Rattle.p4_tables.specs.Named.{table_place}
use Rattle.network_run.specs.Network.{Wiring}
use Rattle.linked_hosts.specs.Linkable.{Linkable}
use Rattle.tree_linkage.specs.Trees.{linked_form, linked_trees}
use Rattle.whole_properties.specs.Whole.{lower_monitor}
use Rattle.control_maps.specs.Numbers.{Numbered}
use Rattle.linked_properties.specs.Linked.{CanBeLinked, given_in, trees_in}
use Rattle.carried_entries.specs.Forms.{map_in}

-- none of these tables has a name under which a table of the first program stands in the second
abbrev pub MissTables : (from to : Parts) → List Numbered → Type 0
MissTables from to ns = AllByRecursion (λ n. AllByRecursion (λ t. table_place to.tables t.name ≢ n.table) from.tables) ns

abbrev pub MonitorTablesAreApart : Type 0
MonitorTablesAreApart =
    (property : Property) (f : Program) (room : ℕ) → CanBeLinked property f room →
    (k : Linkable (linked_form f)) (net : Wiring) (s : ℕ) → s < 2 ^ 16 →
    (let g = given_in property f k in
    let q = linked_trees (trees_in property f k) (lower_monitor g) f net s in
    MissTables (parts_of f) (parts_of q) (map_in (parts_of q) g))
