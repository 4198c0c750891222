-- Linked programs of which values have others in their place. Read `Simpler` of `program_linker` before it, `Starts` of
-- `linked_starts`, `Places` of `carried_entries`, `Passages` of `rewriting_passages` and `Tables` of `rewriting_tables`.
use Rattle.std.specs.Prelude.{◌≡◌, ℕ, ◌≤◌, List, length, map, slice_get, Option, Some}
use Rattle.indus_tree.specs.Tree.{Property}
use Rattle.p4_tree.specs.Tree.{Program}
use Rattle.p4_rules.specs.ProgramRules.{IsWellTyped}
use Rattle.p4_printer.specs.CanSpell.{CanSpell}
use Rattle.p4_tables.specs.Carried.{StandsIn}
use Rattle.network_file.specs.Network.{Network}
use Rattle.network_file.specs.Wiring.{wiring_of}
use Rattle.tree_linkage.specs.Trees.{linked_trees}
use Rattle.whole_properties.specs.Whole.{lower_monitor}
use Rattle.linked_properties.specs.Linked.{CanBeLinked, AreTextNames, given_in, trees_in}
use Rattle.loaded_tables.specs.Rows.{Row}
use Rattle.linked_starts.specs.Starts.{found_row, CanBeLoaded}
use Rattle.rewriting_passages.specs.Passages.{ProgramStands}
use Rattle.rewriting_tables.specs.Tables.{SameTables}
use Rattle.program_linker.specs.Linked.{AreLinked}
use Rattle.program_linker.specs.Simpler.{AreSimplyLinked}

-- f: the program as it is given. The linker's program of a switch
abbrev pub linked_tree : {exact : List Program} {rows : List (List ℕ × (List ℕ × Option ℕ))} (f : Program) (property : Property) (net : Network) → AreLinked f property net exact rows → (switch : ℕ) → Program
linked_tree f property net are s = linked_trees (trees_in property f are.controls) (lower_monitor (given_in property f are.controls)) f (wiring_of net) s

-- ---- what is loaded

-- the tables of a given program stand in a linked one, and its map can be loaded there
pub record IsLoadable (f : Program) (property : Property) (rows : List Row) (q : Program) : Type 0 where
  pub stands : StandsIn f q
  pub can : CanBeLoaded f q property.decls rows

-- so it is at each switch, where the property's names are those of a text
abbrev pub SimplyLinkedCanBeLoaded : Type 0
SimplyLinkedCanBeLoaded =
    (f : Program) (property : Property) (room : ℕ) → CanBeLinked property f room → AreTextNames property.decls → (net : Network) → length net.names ≤ 256 →
    (programs : List Program) (rows : List Row) → AreSimplyLinked f property net programs (map found_row rows) →
    (s : ℕ) (q : Program) → slice_get programs s ≡ Some q → IsLoadable f property rows q

-- ---- what runs

-- a program that does what the first does: its passages, tables and registers are the same
pub record DoesTheSame (p q : Program) : Type 0 where
  pub typed : IsWellTyped q
  pub spelled : CanSpell q
  pub stands : ProgramStands p q
  pub tables : SameTables p q

-- so it is at each switch
abbrev pub SimplyLinkedStand : Type 0
SimplyLinkedStand =
    (f : Program) (property : Property) → AreTextNames property.decls → (net : Network) → length net.names ≤ 256 →
    (programs : List Program) (rows : List (List ℕ × (List ℕ × Option ℕ))) (are : AreSimplyLinked f property net programs rows) →
    (s : ℕ) (q : Program) → slice_get programs s ≡ Some q → DoesTheSame (linked_tree f property net are.linked s) q
