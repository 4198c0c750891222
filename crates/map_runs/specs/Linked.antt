-- The map of a linked program by numbers, as a run has it, is the monitor's map by names. Read `Named` before it, and `Forms` of
-- `carried_entries`.
use Rattle.std.specs.Prelude.{◌≡◌, ℕ, map}
use Rattle.indus_tree.specs.Tree.{Property}
use Rattle.p4_tree.specs.Tree.{Program}
use Rattle.p4_meaning.specs.Parts.{parts_of}
use Rattle.network_run.specs.Network.{Wiring}
use Rattle.linked_hosts.specs.Linkable.{Linkable}
use Rattle.tree_linkage.specs.Trees.{linked_form, linked_trees}
use Rattle.whole_properties.specs.Whole.{lower_monitor}
use Rattle.control_maps.specs.Numbers.{named_in}
use Rattle.linked_properties.specs.Linked.{CanBeLinked, given_in, trees_in}
use Rattle.carried_entries.specs.Forms.{map_in}
use Rattle.map_runs.specs.Named.{named_lookups}

abbrev pub NumbersAreLookups : Type 0
NumbersAreLookups =
    (property : Property) (f : Program) (room : ℕ) → CanBeLinked property f room →
    (k : Linkable (linked_form f)) (net : Wiring) (s : ℕ) →
    (let g = given_in property f k in
    let q = linked_trees (trees_in property f k) (lower_monitor g) f net s in
    map (named_in (parts_of q)) (map_in (parts_of q) g) ≡ named_lookups g)
