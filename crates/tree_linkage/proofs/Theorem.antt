-- The law: the linked trees have the linked parts of the program without exits, which has the parts of what is linked, and these are a linkage of the given program.
use Rattle.std.proofs.Common.{◌≡◌, ℕ, ◌<◌, ◌^◌, List, [], ◌∷◌, ◌++◌, Bool, true, false, arith, All, sym, ap, subst, ◌∙◌}
use Rattle.std.specs.Prelude.{nat_eq, if◌then◌else◌}
use Rattle.std.specs.List.{AllByRecursion}
use Rattle.std.proofs.lemmas.List.Elements.{All-head, All-tail}
use Rattle.bit_values.specs.Bits.{Word}
use Rattle.p4_tree.specs.Tree.{Program}
use Rattle.p4_meaning.specs.Parts.{Parts, parts_of}
use Rattle.p4_meaning.specs.Pass.{Kept}
use Rattle.p4_rules.specs.ProgramRules.{IsWellTyped}
use Rattle.exit_programs.specs.Programs.{program_without}
use Rattle.exit_rules.proofs.WellTyped.{stays_well_typed}
use Rattle.own_programs.proofs.Without.{without_own, lowered_programs_forward}
use Rattle.network_run.specs.Network.{Link, Wiring, IsLinkOf, IsWiring, port_count}
use Rattle.switch_machines.specs.Programs.{ports_at}
use Rattle.own_code.specs.Forwarding.{IsForwarding}
use Rattle.monitor_laws.specs.Monitor.{Monitor}
use Rattle.monitor_laws.specs.MonitorLaws.{MonitorLaws}
use Rattle.linked_halves.specs.LinkedParts.{Declarations, Joins, linked_parts}
use Rattle.linked_halves.specs.Widths.{HasSoundFields, HasWidths}
use Rattle.given_linkage.specs.Given.{IsLinkedHost, AreLinkedPrograms}
use Rattle.given_linkage.proofs.Theorem.{of_given}
use Rattle.linked_programs.specs.Lowered.{Lowered}
use Rattle.linked_programs.specs.Linked.{packet_name}
use Rattle.linked_programs.specs.Gives.{Halves}
use Rattle.linked_programs.specs.Woven.{declared}
use Rattle.linked_hosts.specs.Linkable.{Linkable, IsLinked}
use Rattle.linked_hosts.proofs.ReadyByRules.{linked_is_host}
use Rattle.linked_hosts.proofs.NamesThere.{linked_is_spelled}
use Rattle.parted_programs.proofs.FreeNames.{without_exits_is_free}
use Rattle.parted_programs.proofs.SameParts.{parted_has_same_parts}
use Rattle.parted_programs.proofs.Given.{parted_is_given}
use Rattle.tree_linkage.specs.Trees.{CanLink, linked_form, LinkedFormIsGiven, IsLoweredFor, linked_trees, AreLinkedTrees}

-- ---- the program without exits

well_without : (p : Program) → CanLink p → IsWellTyped (program_without p)
well_without p can = stays_well_typed p can.program.typed can.program.given

pub linked_form_is_given : LinkedFormIsGiven
linked_form_is_given p can =
    parted_is_given (program_without p)
    (record {
      parts = record { typed = well_without p can; free = without_exits_is_free p can.program.given };
      names = without_own p can.program.given;
      spelled = can.spelled;
    })

same_parts : (p : Program) → CanLink p → parts_of (linked_form p) ≡ parts_of (program_without p)
same_parts p can = parted_has_same_parts (program_without p) (well_without p can)

-- ---- ports of links are written with few digits

all_append : (xs ys : List ℕ) → AllByRecursion (λ n. n < 2 ^ 128) xs → AllByRecursion (λ n. n < 2 ^ 128) ys → AllByRecursion (λ n. n < 2 ^ 128) (xs ++ ys)
all_append [] ys h k = k
all_append (x ∷ xs) ys h k = (h.0, all_append xs ys h.1 k)

one_low : (b : Bool) (n : ℕ) → n < port_count → AllByRecursion (λ n. n < 2 ^ 128) (if b then n ∷ [] else [])
one_low true n h = (omega arith, tt)
one_low false n h = tt

low_ports : (net : Wiring) (ls : List Link) (s : ℕ) → All (IsLinkOf net) ls → AllByRecursion (λ n. n < 2 ^ 128) (ports_at ls s)
low_ports net [] s h = tt
low_ports net (l ∷ ls) s h =
    (let is = All-head (IsLinkOf net) l ls h in
    all_append (if nat_eq s l.one then l.one_port ∷ [] else []) _ (one_low (nat_eq s l.one) l.one_port is.one_port)
    (all_append (if nat_eq s l.other then l.other_port ∷ [] else []) (ports_at ls s) (one_low (nat_eq s l.other) l.other_port is.other_port) (low_ports net ls s (All-tail (IsLinkOf net) l ls h))))

-- ---- the law

module _ {T Z C : Type 0} (m : Monitor T Z C) (Fit : T → Type 0) (Keeps : Z → (ℕ → C) → Kept → Type 0) (FitView : List Word → Type 0) (IsVariable : ℕ → Type 0) (IsFitContents : (variable : ℕ) → C → Type 0)
    (laws : MonitorLaws m Fit Keeps FitView IsVariable IsFitContents) (l : Lowered) (h : Halves) (p : Program) (k : Linkable (linked_form p)) (net : Wiring) (can : CanLink p) (is : IsLoweredFor l m h p k net FitView) (wired : IsWiring net)
  where
    abbrev host_program : Program
    host_program = linked_form p

    abbrev d : Declarations
    d = declared m h (packet_name k.parser) host_program

    same : parts_of host_program ≡ parts_of (program_without p)
    same = same_parts p can

    linked : IsLinked l m FitView h (packet_name k.parser) net host_program
    linked =
        linked_is_host T Z C FitView l m h host_program (linked_form_is_given p can) k is.gives (subst IsForwarding (sym same) (lowered_programs_forward p can.program.typed can.program.given can.program.quiet))
        (λ s w. is.views s (subst (λ (f : Parts). HasWidths f s) same w)) net wired

    host : IsLinkedHost m p net (λ s. d) FitView
    host =
        record {
          program = can.program;
          fields = subst HasSoundFields same linked.host.fields;
          views = is.views;
          network = wired;
          joins = λ s. subst (λ (f : Parts). Joins m f d) same (linked.host.joins s);
        }

    are : AreLinkedPrograms m p net (λ s. d) (linked_trees l m p net)
    are = record { parts = λ s known. linked.programs s ∙ ap (λ (f : Parts). linked_parts m s (ports_at net.links s) f d) same }

    pub are_linked : AreLinkedTrees l m h p k net IsVariable IsFitContents
    are_linked =
        record {
          linkage = of_given m Fit Keeps FitView IsVariable IsFitContents laws p net (λ s. d) host (linked_trees l m p net) are;
          spelled = λ spells room s small. linked_is_spelled l _ s (ports_at net.links s) host_program (linked_form_is_given p can) spells room small (low_ports net net.links s wired);
        }
