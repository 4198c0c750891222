-- The form of a linked program: what the given one declares stands there, and what is new is the monitor's by its name.
-- Read `Fine` before it, `Woven` of `linked_programs` and `Laws` of `exit_programs`.
use Rattle.std.specs.Prelude.{◌≡◌, ℕ, suc, List, ◌∷◌, ◌++◌, true, false}
use Rattle.std.specs.List.{AllByRecursion}
use Rattle.std.specs.Option.{option_map}
use Rattle.p4_tree.specs.Tree.{Program}
use Rattle.p4_meaning.specs.Scope.{is_among, names_in}
use Rattle.p4_meaning.specs.Under.{no_scope}
use Rattle.p4_meaning.specs.Actions.{action_named}
use Rattle.p4_meaning.specs.Tables.{table_named}
use Rattle.p4_meaning.specs.Parts.{registers_of, parts_of}
use Rattle.packet_lengths.specs.Lengths.{plain_action, plain_table}
use Rattle.own_code.specs.Regions.{is_mine}
use Rattle.own_programs.specs.OwnPrograms.{is_own}
use Rattle.exit_programs.specs.Laws.{locals_names, tops_names}
use Rattle.monitor_laws.specs.Monitor.{Monitor}
use Rattle.linked_halves.specs.LinkedParts.{rejects_cells}
use Rattle.linked_programs.specs.Lowered.{Lowered}
use Rattle.linked_programs.specs.Linked.{control_roots, linked}
use Rattle.linked_programs.specs.Gives.{Halves, GivesMonitor}
use Rattle.linked_hosts.specs.Linkable.{IsGiven, Linkable}

abbrev pub AreMine : List (List ℕ) → Type 0
AreMine xs = AllByRecursion (λ x. is_mine x ≡ true) xs

-- each name that a lowering's trees declare, at any depth, is the monitor's
pub record DeclaresItsOwn (l : Lowered) : Type 0 where
  pub tops : AreMine (tops_names l.tops)
  pub entry_locals : AreMine (locals_names l.entry_locals)
  pub exit_locals : AreMine (locals_names l.exit_locals)
  pub entry : AreMine (names_in l.entry)
  pub exit : AreMine (names_in l.exit)

-- a linked program declares the other names that the given one declares, and no others
abbrev pub LinkedNamesStand : Type 0
LinkedNamesStand =
    (l : Lowered) → DeclaresItsOwn l → (p : Program) → IsGiven p →
    (size s : ℕ) (links : List ℕ) (x : List ℕ) → is_own x ≡ true →
    is_among (tops_names (linked l size s links p).tops) x ≡ is_among (tops_names p.tops) x

-- the program's actions and tables stand there under their names, with their parameters, and their keys but for reads of
-- the packet's length, lists, and defaults, `const` or not; and its registers behind the monitor's
pub record Stand {T Z C : Type 0} (m : Monitor T Z C) (p q : Program) : Type 0 where
  pub actions :
      (x : List ℕ) → is_mine x ≡ false →
      action_named (parts_of q).actions x ≡ option_map plain_action (action_named (parts_of p).actions x)
  pub tables :
      (x : List ℕ) → is_mine x ≡ false →
      table_named (parts_of q).tables x ≡ option_map plain_table (table_named (parts_of p).tables x)
  -- the others are the monitor's
  pub monitor_actions :
      (x : List ℕ) → is_mine x ≡ true →
      action_named (parts_of q).actions x ≡ option_map plain_action (action_named m.actions x)
  pub monitor_tables :
      (x : List ℕ) → is_mine x ≡ true →
      table_named (parts_of q).tables x ≡ option_map plain_table (table_named m.tables x)
  pub registers : (parts_of q).registers ≡ rejects_cells ∷ (m.registers ++ registers_of no_scope p.tops)

abbrev pub TablesStand : (T Z C : Type 0) → Type 0
TablesStand T Z C =
    (l : Lowered) (m : Monitor T Z C) (h : Halves) (p : Program) (g : IsGiven p) (k : Linkable p) →
    GivesMonitor l m h k.ingress.name k.egress.name (control_roots k.ingress) (control_roots k.egress) →
    (s : ℕ) (links : List ℕ) → Stand m p (linked l (suc m.room) s links p)
