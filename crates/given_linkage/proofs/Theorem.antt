-- Linked programs are a linkage of the program that was given: the parts without exits move to the given program, and the
-- linked parts to the linked programs.
use Rattle.std.proofs.Common.{◌≡◌, ℕ, List, [], refl, sym, ap, ◌∙◌, subst}
use Rattle.bit_values.specs.Bits.{Word}
use Rattle.p4_tree.specs.Tree.{Program}
use Rattle.p4_meaning.specs.Parts.{Cells, Parts, parts_of}
use Rattle.p4_meaning.specs.Tables.{Table, Tables, table_named}
use Rattle.p4_meaning.specs.Pass.{Kept, start_cells, parts_enter, parts_leave, kept_before}
use Rattle.p4_meaning.specs.Laws.{RunsListed, AreListed}
use Rattle.exit_programs.specs.Programs.{program_without}
use Rattle.exit_passages.specs.Passages as exits
use Rattle.exit_passages.specs.Passages.{PassesSame}
use Rattle.exit_lowering.specs.Lowered.{IsLowered}
use Rattle.exit_lowering.proofs.Facts as lowering
use Rattle.own_programs.proofs.Without.{lowered_programs_forward}
use Rattle.network_run.specs.Network.{Wiring}
use Rattle.linkage.specs.Linkage.{RegisterReading, Linkage}
use Rattle.switch_machines.specs.Programs.{view_of, entered_of, leaving_of}
use Rattle.monitor_laws.specs.Monitor.{Monitor, telemetry_of}
use Rattle.monitor_laws.specs.MonitorLaws.{MonitorLaws}
use Rattle.linked_halves.specs.Held.{OwnEntries}
use Rattle.linked_halves.specs.LinkedParts.{Declarations}
use Rattle.linked_halves.specs.Given.{registers_of, IsHost, forwarding_machine, linked_machine, IsLinkage}
use Rattle.linked_halves.proofs.Theorem.{linked}
use Rattle.linkage.specs.Moves.{MovesTo}
use Rattle.linkage.proofs.MovedLinkages.{moved}
use Rattle.own_code.specs.Forwarding.{IsForwarding}
use Rattle.own_code.proofs.Held.{held_own}
use Rattle.given_linkage.specs.Given.{IsLinkedHost, given_machine, AreLinkedPrograms, programs_machine, IsLinkageOfGiven}
use Rattle.given_linkage.proofs.Leaves.{leaving_same}

module _ {T Z C : Type 0} (m : Monitor T Z C) (Fit : T → Type 0) (Keeps : Z → (ℕ → C) → Kept → Type 0) (FitView : List Word → Type 0) (IsVariable : ℕ → Type 0) (IsFitContents : (variable : ℕ) → C → Type 0)
    (laws : MonitorLaws m Fit Keeps FitView IsVariable IsFitContents) (p : Program) (net : Wiring) (d : (switch : ℕ) → Declarations) (is : IsLinkedHost m p net d FitView)
  where
    abbrev given : Parts
    given = parts_of p

    abbrev plain : Parts
    plain = parts_of (program_without p)

    facts : IsLowered p (program_without p)
    facts = lowering.lowered p is.program.typed is.program.given

    passes : PassesSame (parts_of p) (parts_of (program_without p))
    passes = facts.passes is.program.plain

    forwards : IsForwarding (parts_of (program_without p))
    forwards = lowered_programs_forward p is.program.typed is.program.given is.program.quiet

    host : IsHost m FitView (parts_of (program_without p)) net d
    host = record { forwarding = forwards; fields = is.fields; views = is.views; network = is.network; joins = is.joins }

    -- the linkage of the parts without exits
    of_parts : IsLinkage m (parts_of (program_without p)) net d Fit Keeps IsVariable IsFitContents
    of_parts = linked m Fit Keeps FitView IsVariable IsFitContents laws (parts_of (program_without p)) net d host

    -- ---- the plain side

    abbrev Good : ℕ → Kept → Type 0
    Good s k = AreListed (parts_of p) k.tables

    plain_moves : MovesTo net (λ s e. e) (forwarding_machine m (parts_of (program_without p)) net d) (given_machine m p net d) Good (λ s. exits.IsQueued) (λ s. AreListed (parts_of p)) IsVariable (λ s. IsFitContents)
    plain_moves =
        record {
          starts = λ s e c known fit fits. ap (λ (rs : List Cells). record { registers = start_cells rs; tables = e }) (sym facts.registers);
          starts_good = λ s e c known fit fits. fit;
          enters = λ s port a frame known good. ap (entered_of (view_of m.views) a.tables) (sym (passes.enters a.tables good a.registers port frame));
          enters_good = λ s port a frame known good. good;
          queues = λ s port a frame q known good e.
              passes.queues a.tables a.registers port frame q (ap (λ x. x.queued) (sym (passes.enters a.tables good a.registers port frame)) ∙ e);
          leaves = λ s a q known good queued.
              sym (leaving_same m.views laws.views a.tables (parts_leave (parts_of p) a.tables a.registers q) (parts_leave (parts_of (program_without p)) a.tables a.registers q) (passes.leaves a.tables good a.registers q queued));
          leaves_good = λ s a q known good queued. good;
          sets = λ s v a x known good named fit. refl;
          sets_good = λ s v a x known good named fit. good;
        }

    entries_fit : (s : ℕ) (e : Tables) → AreListed (parts_of p) e → OwnEntries (parts_of (program_without p)) e
    entries_fit s e listed x t named =
        held_own (parts_of (program_without p)).tables forwards.tables x t named (e x)
        (subst (λ (ts : List Table). RunsListed (table_named ts x) (e x)) (sym facts.tables) (listed x))

    -- ---- the linked side

    module _ (q : (switch : ℕ) → Program) (are : AreLinkedPrograms m p net d q) where
      linked_moves : MovesTo net (λ s e. e) (linked_machine m (parts_of (program_without p)) net d) (programs_machine m p net d q) (λ s k. Unit {0}) (λ s w. Unit {0}) (λ s. AreListed (parts_of p)) IsVariable (λ s. IsFitContents)
      linked_moves =
          record {
            starts = λ s e c known fit fits. ap (λ (x : Parts). kept_before x (m.controls.loaded c e)) (are.parts s known);
            starts_good = λ s e c known fit fits. tt;
            enters = λ s port a frame known good. ap (λ (x : Parts). entered_of (λ s. []) a.tables (parts_enter x a.tables a.registers port frame)) (are.parts s known);
            enters_good = λ s port a frame known good. tt;
            queues = λ s port a frame q known good e. tt;
            leaves = λ s a w known good queued. ap (λ (x : Parts). leaving_of (λ s. []) a.tables (parts_leave x a.tables a.registers w)) (are.parts s known);
            leaves_good = λ s a q known good queued. tt;
            sets = λ s v a x known good named fit. refl;
            sets_good = λ s v a x known good named fit. tt;
          }

      same_registers : registers_of (parts_of (program_without p)) m.sensors ≡ registers_of (parts_of p) m.sensors
      same_registers = ap (λ (rs : List Cells). registers_of (record (parts_of p) { registers = rs }) m.sensors) facts.registers

      pub of_given : IsLinkageOfGiven m p net d q IsVariable IsFitContents
      of_given =
          subst (λ (r : RegisterReading Kept Kept Z (List ℕ)). Linkage (given_machine m p net d) (programs_machine m p net d q) net m.property (telemetry_of m) r (λ s. AreListed (parts_of p)) IsVariable (λ s. IsFitContents)) same_registers
          (moved net (λ s e. e) (forwarding_machine m (parts_of (program_without p)) net d) (given_machine m p net d) (linked_machine m (parts_of (program_without p)) net d) (programs_machine m p net d q)
          Good (λ s. exits.IsQueued) (λ s k. Unit {0}) (λ s w. Unit {0}) (λ s. OwnEntries (parts_of (program_without p))) (λ s. AreListed (parts_of p)) IsVariable (λ s. IsFitContents) is.network entries_fit plain_moves linked_moves
          m.property (telemetry_of m) (registers_of (parts_of (program_without p)) m.sensors) of_parts)
