-- Which programs are linked. Read `Ready` and `Woven` of `linked_programs` before it.
use Rattle.std.specs.Prelude.{◌≡◌, ℕ, suc, List, false}
use Rattle.lex_text.specs.Names.{same_text}
use Rattle.p4_tree.specs.Tree.{Control, Parser, Program}
use Rattle.p4_meaning.specs.Parts.{parts_of}
use Rattle.p4_rules.specs.ProgramRules.{IsWellTyped}
use Rattle.p4_printer.specs.CanSpell.{CanSpell}
use Rattle.own_programs.specs.OwnPrograms.{HasOwnNames}
use Rattle.monitor_laws.specs.Monitor.{Monitor}
use Rattle.linked_programs.specs.Lowered.{Lowered}
use Rattle.linked_programs.specs.Linked.{control_roots, packet_name, headers_type, metadata_type, linked}
use Rattle.linked_programs.specs.Gives.{AreOwnRoots, Halves, GivesMonitor}
use Rattle.linked_programs.specs.Ready.{IsReady}
use Rattle.linked_programs.specs.Woven.{declared, HasLinkedParts}
use Rattle.network_run.specs.Network.{Wiring, IsWiring}
use Rattle.switch_machines.specs.Programs.{view_of, ports_at}
use Rattle.own_code.specs.Forwarding.{IsForwarding}
use Rattle.linked_halves.specs.LinkedParts.{linked_parts}
use Rattle.bit_values.specs.Bits.{Word}
use Rattle.p4_meaning.specs.Store.{Store}
use Rattle.linked_halves.specs.Widths.{HasWidths}
use Rattle.linked_halves.specs.Given.{IsHost}

-- the controls and the parser that `main` names, and what linking rests on
pub record Linkable (p : Program) : Type 0 where
  pub ingress : Control
  pub egress : Control
  pub parser : Parser
  pub deparser : Control
  pub ready : IsReady p ingress egress parser deparser

-- a well-typed program with own names that can be spelled, whose headers and metadata have two structs
pub record IsGiven (p : Program) : Type 0 where
  pub typed : IsWellTyped p
  pub names : HasOwnNames p
  pub spelled : CanSpell p
  pub two : same_text (headers_type p) (metadata_type p) ≡ false

abbrev pub WellTypedIsLinkable : Type 0
WellTypedIsLinkable = (p : Program) → IsGiven p → Linkable p

-- the names that the two controls give their parameters are the program's own
pub record HasOwnRoots (p : Program) (k : Linkable p) : Type 0 where
  pub ingress : AreOwnRoots (control_roots k.ingress)
  pub egress : AreOwnRoots (control_roots k.egress)

abbrev pub LinkableHasOwnRoots : Type 0
LinkableHasOwnRoots = (p : Program) (k : Linkable p) → HasOwnRoots p k

-- the parts of its linked program are the linked parts, for every monitor that a lowering gives for its controls
abbrev pub LinkedHasParts : (T Z C : Type 0) → Type 0
LinkedHasParts T Z C =
    (l : Lowered) (m : Monitor T Z C) (h : Halves) (p : Program) (g : IsGiven p) (k : Linkable p) → GivesMonitor l m h k.ingress.name k.egress.name (control_roots k.ingress) (control_roots k.egress)
    → (s : ℕ) (links : List ℕ) → HasLinkedParts m h (packet_name k.parser) s links p (linked l (suc m.room) s links p)

-- the linked programs of all switches are what the law of linkage is about
pub record IsLinked {T Z C : Type 0} (l : Lowered) (m : Monitor T Z C) (FitView : List Word → Type 0) (h : Halves) (packet : List ℕ) (net : Wiring) (p : Program) : Type 0 where
  pub host : IsHost m FitView (parts_of p) net (λ s. declared m h packet p)
  pub programs : (s : ℕ) → parts_of (linked l (suc m.room) s (ports_at net.links s) p) ≡ linked_parts m s (ports_at net.links s) (parts_of p) (declared m h packet p)

-- so it is where the program is forwarding, and header variables read words of the widths that its fields declare
abbrev pub LinkedIsHost : (T Z C : Type 0) (FitView : List Word → Type 0) → Type 0
LinkedIsHost T Z C FitView =
    (l : Lowered) (m : Monitor T Z C) (h : Halves) (p : Program) (g : IsGiven p) (k : Linkable p) → GivesMonitor l m h k.ingress.name k.egress.name (control_roots k.ingress) (control_roots k.egress)
    → IsForwarding (parts_of p) → ((s : Store) → HasWidths (parts_of p) s → FitView (view_of m.views s)) → (net : Wiring) → IsWiring net → IsLinked l m FitView h (packet_name k.parser) net p
