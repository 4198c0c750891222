-- The monitor of a property, as trees in a program's ingress and egress, and the linked program of a switch. Read `Trees` of
-- `monitor_trees` before it.
use Rattle.std.specs.Prelude.{ℕ, List, [], ◌++◌, Option, Some, None}
use Rattle.indus_tree.specs.Tree.{Property}
use Rattle.p4_tree.specs.Tree.{Control, Program}
use Rattle.p4_meaning.specs.Scope.{Roots, no_roots}
use Rattle.p4_meaning.specs.Parts.{control_in}
use Rattle.network_file.specs.Network.{Network}
use Rattle.network_file.specs.Wiring.{linked_ports}
use Rattle.linked_programs.specs.Linked.{control_roots, linked}
use Rattle.linked_programs.specs.Lowered.{Lowered}
use Rattle.whole_properties.specs.Whole.{Given}
use Rattle.monitor_trees.specs.Trees.{trees_of}
use Rattle.lower_blocks.specs.Trees.{mapped, entry_lookups, exit_lookups}

abbrev pub name_of : Option Control → List ℕ
name_of None = []
name_of (Some c) = c.name

abbrev pub roots_of : Option Control → Roots
roots_of None = no_roots
roots_of (Some c) = control_roots c

-- of the control at a place of `main`: its name, and those that it gives its parameters
abbrev pub name_at : Program → ℕ → List ℕ
name_at p n = name_of (control_in p n)

abbrev pub roots_at : Program → ℕ → Roots
roots_at p n = roots_of (control_in p n)

-- the property with the names of two controls, and its monitor's trees there
abbrev pub given_for : Property → (ingress egress : Option Control) → Given
given_for property i e = record { property = property; ingress = name_of i; egress = name_of e }

abbrev pub trees_for : Property → (ingress egress : Option Control) → Lowered
trees_for property i e = trees_of (given_for property i e) (roots_of i) (roots_of e)

-- its tables of control variables there: control, table and the variable's number
abbrev pub rows_for : Property → (ingress egress : Option Control) → List (List ℕ × (List ℕ × Option ℕ))
rows_for property i e =
    mapped property (name_of i) (entry_lookups (given_for property i e)) ++ mapped property (name_of e) (exit_lookups (given_for property i e))

-- in a program's ingress and egress
abbrev pub lowered_in : Property → Program → Lowered
lowered_in property p = trees_for property (control_in p 2) (control_in p 3)

abbrev pub rows_in : Property → Program → List (List ℕ × (List ℕ × Option ℕ))
rows_in property p = rows_for property (control_in p 2) (control_in p 3)

-- a program with a lowering's trees in it, at a switch of a network. size: the bytes of the telemetry
abbrev pub linked_at : Lowered → (size : ℕ) → Network → Program → (switch : ℕ) → Program
linked_at l size net p s = linked l size s (linked_ports net.links s) p
