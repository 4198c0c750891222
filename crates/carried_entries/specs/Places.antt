-- In the linked program of each switch the tables of the given program have their places, so that what is loaded for the
-- given program can be carried into the linked one. Read `Linked` of `linked_properties` before it, and `Carried` of
-- `p4_tables`.
use Rattle.std.specs.Prelude.{ℕ, ◌<◌, ◌^◌}
use Rattle.indus_tree.specs.Tree.{Property}
use Rattle.p4_tree.specs.Tree.{Program}
use Rattle.p4_tables.specs.Carried.{StandsIn}
use Rattle.network_run.specs.Network.{Wiring}
use Rattle.linked_hosts.specs.Linkable.{Linkable}
use Rattle.tree_linkage.specs.Trees.{linked_form, linked_trees}
use Rattle.whole_properties.specs.Whole.{lower_monitor}
use Rattle.linked_properties.specs.Linked.{CanBeLinked, given_in, trees_in}

-- f: the program as it is given, with its exits. Each table of it stands in the linked program under its name, with keys of the
-- same kinds and widths, the same actions with the same parameters, and the same default
abbrev pub EntriesHavePlaces : Type 0
EntriesHavePlaces =
    (property : Property) (f : Program) (room : ℕ) → CanBeLinked property f room →
    (k : Linkable (linked_form f)) (net : Wiring) (s : ℕ) → s < 2 ^ 16 →
    StandsIn f (linked_trees (trees_in property f k) (lower_monitor (given_in property f k)) f net s)
