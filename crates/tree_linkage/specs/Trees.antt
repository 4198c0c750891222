-- The linked trees of a program that was given, with its exits, and that they are a linkage of it. Linked is the program
-- without exits, with a struct for each role. Read `Given` of `given_linkage` before it, `Linkable` of `linked_hosts` and
-- `Parted` of `parted_programs`.
use Rattle.std.specs.Prelude.{ℕ, suc, ◌<◌, ◌^◌, List}
use Rattle.bit_values.specs.Bits.{Word}
use Rattle.p4_tree.specs.Tree.{Program}
use Rattle.p4_meaning.specs.Store.{Store}
use Rattle.p4_meaning.specs.Parts.{parts_of}
use Rattle.p4_printer.specs.CanSpell.{CanSpell}
use Rattle.exit_programs.specs.Programs.{program_without}
use Rattle.network_run.specs.Network.{Wiring}
use Rattle.switch_machines.specs.Programs.{view_of, ports_at}
use Rattle.monitor_laws.specs.Monitor.{Monitor}
use Rattle.linked_halves.specs.Widths.{HasWidths}
use Rattle.given_linkage.specs.Given.{IsGivenProgram, IsLinkageOfGiven}
use Rattle.linked_programs.specs.Lowered.{Lowered}
use Rattle.linked_programs.specs.Linked.{control_roots, packet_name, linked}
use Rattle.linked_programs.specs.Gives.{Halves, GivesMonitor}
use Rattle.linked_programs.specs.Woven.{declared}
use Rattle.linked_programs.specs.Spells.{SpellsLowered}
use Rattle.linked_hosts.specs.Linkable.{Linkable, IsGiven}
use Rattle.parted_programs.specs.Parted.{parted}

-- what is asked of the program that is given
pub record CanLink (p : Program) : Type 0 where
  pub program : IsGivenProgram p
  -- without its exits it can be spelled, as each program that was read can be (`IsLowered` of `exit_lowering`)
  pub spelled : CanSpell (program_without p)

-- what is linked of it: it has no exits, and a struct of headers and another of metadata
abbrev pub linked_form : Program → Program
linked_form p = parted (program_without p)

abbrev pub LinkedFormIsGiven : Type 0
LinkedFormIsGiven = (p : Program) → CanLink p → IsGiven (linked_form p)

-- the linked program of each switch of a network
abbrev pub linked_trees : {T Z C : Type 0} → Lowered → Monitor T Z C → Program → Wiring → (switch : ℕ) → Program
linked_trees l m p net s = linked l (suc m.room) s (ports_at net.links s) (linked_form p)

module _ {T Z C : Type 0} (l : Lowered) (m : Monitor T Z C) (h : Halves) (p : Program) (k : Linkable (linked_form p)) (net : Wiring) where
  -- what is asked of a lowering: in the program's ingress and egress its trees are the monitor's parts, and where the
  -- program's fields hold words of their widths, header variables read what fits them
  pub record IsLoweredFor (FitView : List Word → Type 0) : Type 0 where
    pub gives : GivesMonitor l m h k.ingress.name k.egress.name (control_roots k.ingress) (control_roots k.egress)
    pub views : (s : Store) → HasWidths (parts_of (program_without p)) s → FitView (view_of m.views s)

  pub record AreLinkedTrees (IsVariable : ℕ → Type 0) (IsFitContents : (variable : ℕ) → C → Type 0) : Type 0 where
    -- they are a linkage of the given program and the property
    pub linkage : IsLinkageOfGiven m p net (λ s. declared m h (packet_name k.parser) (linked_form p)) (linked_trees l m p net) IsVariable IsFitContents
    -- and are texts, where the lowering's trees are
    pub spelled : SpellsLowered l → suc m.room < 2 ^ 128 → (s : ℕ) → s < 2 ^ 128 → CanSpell (linked_trees l m p net s)
