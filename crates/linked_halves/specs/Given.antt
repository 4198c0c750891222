-- What is linked, and what is said of it: the laws of the two halves, and linkage.
use Rattle.std.specs.Prelude.{ℕ, List, [], map}
use Rattle.bit_values.specs.Bits.{Word}
use Rattle.p4_meaning.specs.Store.{Store}
use Rattle.p4_meaning.specs.Parts.{Parts}
use Rattle.p4_meaning.specs.Tables.{Tables}
use Rattle.p4_meaning.specs.Pass.{Kept, Queued}
use Rattle.network_run.specs.Machine.{Machine}
use Rattle.network_run.specs.Network.{Wiring, IsWiring}
use Rattle.linkage.specs.Linkage.{SensorRegister, RegisterReading, Linkage}
use Rattle.linkage.specs.HalvesLaws.{HalvesLaws}
use Rattle.switch_machines.specs.Programs.{view_of, machine_of, machine_with, cells_of, ports_at}
use Rattle.own_code.specs.Forwarding.{IsForwarding}
use Rattle.monitor_laws.specs.Names.{rejects_register}
use Rattle.monitor_laws.specs.Monitor.{Monitor, telemetry_of}
use Rattle.linked_halves.specs.Widths.{HasSoundFields, HasWidths}
use Rattle.linked_halves.specs.LinkedParts.{Declarations, Joins, linked_parts}
use Rattle.linked_halves.specs.Held.{OwnEntries, KeptBy, HeldBy}

-- how registers are read: the forwarding program's, the sensors', and the one that counts rejected packets
abbrev pub registers_of : {Z : Type 0} → Parts → List (SensorRegister Z (List ℕ)) → RegisterReading Kept Kept Z (List ℕ)
registers_of f sensors =
    record {
      plain_cells = cells_of;
      linked_cells = cells_of;
      forwarding = map (λ c. c.name) f.registers;
      sensors = sensors;
      rejects = rejects_register;
    }

-- the program is one that is linked, the links join ports of switches, and each switch declares what the two do. The
-- program's fields have widths, and where they hold words of these widths, header variables read what fits them
pub record IsHost {T Z C : Type 0} (m : Monitor T Z C) (FitView : List Word → Type 0) (f : Parts) (net : Wiring) (d : (switch : ℕ) → Declarations) : Type 0 where
  pub forwarding : IsForwarding f
  pub fields : HasSoundFields f
  pub views : (s : Store) → HasWidths f s → FitView (view_of m.views s)
  pub network : IsWiring net
  pub joins : (s : ℕ) → Joins m f (d s)

module _ {T Z C : Type 0} (m : Monitor T Z C) (f : Parts) (net : Wiring) (d : (switch : ℕ) → Declarations) where
  -- the same program at each switch
  abbrev pub forwarding_machine : Machine Tables Kept Queued C
  forwarding_machine = machine_of (record { program = λ s. f; reads = view_of m.views })

  -- the linked program of each switch. What it would view is not looked at
  abbrev pub linked_machine : Machine Tables Kept Queued C
  linked_machine = machine_with (λ s. m.controls) (record { program = λ s. linked_parts m s (ports_at net.links s) f (d s); reads = λ s. [] })

  module _ (Fit : T → Type 0) (Keeps : Z → (ℕ → C) → Kept → Type 0) (IsVariable : ℕ → Type 0) (IsFitContents : (variable : ℕ) → C → Type 0) where
    -- a linked enter and a linked leave keep to the laws of the two halves
    abbrev pub KeepsHalves : Type 0
    KeepsHalves =
        HalvesLaws net m.property (telemetry_of m) (KeptBy m Fit Keeps f) (HeldBy m Fit Keeps f (ports_at net.links)) Fit
        forwarding_machine linked_machine (registers_of f m.sensors) (λ s. OwnEntries f) IsVariable (λ s. IsFitContents)

    -- the linked programs are a linkage
    abbrev pub IsLinkage : Type 0
    IsLinkage =
        Linkage forwarding_machine linked_machine net m.property (telemetry_of m)
        (registers_of f m.sensors) (λ s. OwnEntries f) IsVariable (λ s. IsFitContents)
