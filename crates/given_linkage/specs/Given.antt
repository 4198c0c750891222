-- A given program with its exits, the linked programs of the switches, and that these are a linkage of it. Read `Lowered` of
-- `exit_lowering` before it, and `Given` of `linked_halves`.
use Rattle.std.specs.Prelude.{◌≡◌, ℕ, ◌<◌, List, [], false}
use Rattle.bit_values.specs.Bits.{Word}
use Rattle.p4_tree.specs.Tree.{Program}
use Rattle.p4_meaning.specs.Store.{Store}
use Rattle.p4_meaning.specs.Parts.{Parts, parts_of}
use Rattle.p4_meaning.specs.Tables.{Tables}
use Rattle.p4_meaning.specs.Pass.{Kept, Queued}
use Rattle.p4_meaning.specs.Laws.{AreListed}
use Rattle.p4_rules.specs.ProgramRules.{IsWellTyped}
use Rattle.exit_programs.specs.Programs.{program_without}
use Rattle.exit_programs.specs.Names.{HasGivenNames, HasPlainNames}
use Rattle.own_programs.specs.OwnPrograms.{program_tells_reports}
use Rattle.network_run.specs.Machine.{Machine}
use Rattle.network_run.specs.Network.{Wiring, IsWiring}
use Rattle.linkage.specs.Linkage.{Linkage}
use Rattle.switch_machines.specs.Programs.{view_of, machine_of, machine_with, ports_at}
use Rattle.monitor_laws.specs.Monitor.{Monitor, telemetry_of}
use Rattle.linked_halves.specs.Widths.{HasSoundFields, HasWidths}
use Rattle.linked_halves.specs.LinkedParts.{Declarations, Joins, linked_parts}
use Rattle.linked_halves.specs.Given.{registers_of}

-- the program is well typed, no name of it begins with `hydra_`, and it tells no reports
pub record IsGivenProgram (p : Program) : Type 0 where
  pub typed : IsWellTyped p
  pub given : HasGivenNames p
  -- no name has a point, as no name of a text has
  pub plain : HasPlainNames p
  pub quiet : program_tells_reports p ≡ false

module _ {T Z C : Type 0} (m : Monitor T Z C) (p : Program) (net : Wiring) (d : (switch : ℕ) → Declarations) where
  -- the parts of the program without exits, of which linked parts are made
  abbrev pub lowered : Parts
  lowered = parts_of (program_without p)

  -- what is linked, as `IsHost` asks it of the program without exits
  pub record IsLinkedHost (FitView : List Word → Type 0) : Type 0 where
    pub program : IsGivenProgram p
    pub fields : HasSoundFields lowered
    pub views : (s : Store) → HasWidths lowered s → FitView (view_of m.views s)
    pub network : IsWiring net
    pub joins : (s : ℕ) → Joins m lowered (d s)

  -- the given program at each switch, with its exits
  abbrev pub given_machine : Machine Tables Kept Queued C
  given_machine = machine_of (record { program = λ s. parts_of p; reads = view_of m.views })

  -- the linked programs of the switches, whatever stands at numbers that are no switch's
  module _ (q : (switch : ℕ) → Program) where
    pub record AreLinkedPrograms : Type 0 where
      pub parts : (s : ℕ) → s < net.switches → parts_of (q s) ≡ linked_parts m s (ports_at net.links s) lowered (d s)

    abbrev pub programs_machine : Machine Tables Kept Queued C
    programs_machine = machine_with (λ s. m.controls) (record { program = λ s. parts_of (q s); reads = λ s. [] })

    -- they are a linkage of the given program and the property, in every world whose tables run actions of their lists
    abbrev pub IsLinkageOfGiven : (IsVariable : ℕ → Type 0) (IsFitContents : (variable : ℕ) → C → Type 0) → Type 0
    IsLinkageOfGiven IsVariable IsFitContents =
        Linkage given_machine programs_machine net m.property (telemetry_of m) (registers_of (parts_of p) m.sensors)
        (λ s. AreListed (parts_of p)) IsVariable (λ s. IsFitContents)
