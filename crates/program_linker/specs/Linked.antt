-- What a linker answers. Read `Linked` of `linked_properties` before it, and `Trees` of `lower_blocks`.
use Rattle.std.specs.Prelude.{◌≡◌, ℕ, List, ◌++◌, map, length, Option}
use Rattle.std.specs.List.{range_with_len}
use Rattle.indus_tree.specs.Tree.{Property}
use Rattle.p4_tree.specs.Tree.{Program}
use Rattle.network_file.specs.Network.{Network}
use Rattle.network_file.specs.Wiring.{wiring_of}
use Rattle.linked_hosts.specs.Linkable.{Linkable}
use Rattle.tree_linkage.specs.Trees.{linked_form, linked_trees}
use Rattle.whole_properties.specs.Whole.{lower_monitor}
use Rattle.lower_blocks.specs.Trees.{mapped, entry_lookups, exit_lookups}
use Rattle.linked_properties.specs.Linked.{given_in, trees_in, IsPropertyLinked}

-- the tables of control variables, in the ingress and the egress of what is linked: control, table and the variable's number
abbrev pub tables_in : (property : Property) (f : Program) → Linkable (linked_form f) → List (List ℕ × (List ℕ × Option ℕ))
tables_in property f k =
    mapped property k.ingress.name (entry_lookups (given_in property f k)) ++ mapped property k.egress.name (exit_lookups (given_in property f k))

-- the linked trees of all switches, in the network's order, and the tables of control variables in each of them. They are a
-- linkage of the program and the property, well typed, and all that `IsPropertyLinked` says. f: the program as it is written
pub record AreLinked (f : Program) (property : Property) (net : Network) (programs : List Program) (rows : List (List ℕ × (List ℕ × Option ℕ))) : Type 0 where
  pub controls : Linkable (linked_form f)
  pub linked : IsPropertyLinked property f controls (wiring_of net)
  pub trees :
      programs
      ≡ map (linked_trees (trees_in property f controls) (lower_monitor (given_in property f controls)) f (wiring_of net))
      (range_with_len 0 (length net.names))
  pub tables : rows ≡ tables_in property f controls
