-- What the linked programs of a call are.
use Rattle.std.proofs.Common.{◌≡◌, ℕ, zero, suc, ◌+◌, ◌<◌, ◌≤◌, ◌^◌, List, [], ◌∷◌, ◌++◌, Option, Some, None, nat_eq, if◌then◌else◌, map, length, subst, refl, sym, ap, ◌∙◌, arith}
use Rattle.std.specs.List.{All, AllByRecursion, range_with_len}
use Rattle.std.proofs.lemmas.List.Elements.{All-from_recursion}
use Rattle.indus_tree.specs.Tree.{Property}
use Rattle.indus_types.specs.Sums.{property_bits}
use Rattle.tele_layout.specs.Telemetry.{whole_bytes}
use Rattle.p4_tree.specs.Tree.{Control, Program}
use Rattle.p4_meaning.specs.Parts.{control_in}
use Rattle.p4_parser_states.specs.Laws.{ReachesIsExact}
use Rattle.p4_rules.specs.ProgramRules.{IsWellTyped}
use Rattle.p4_printer.specs.CanSpell.{CanSpell}
use Rattle.exit_programs.specs.Names.{HasGivenNames}
use Rattle.network_run.specs.Network.{Link, IsWiring}
use Rattle.network_file.specs.Network.{Network}
use Rattle.network_file.specs.Wiring.{linked_ports, wiring_of}
use Rattle.switch_machines.specs.Programs.{ports_at}
use Rattle.linked_programs.specs.Lowered.{Lowered}
use Rattle.linked_programs.specs.Linked.{linked}
use Rattle.linked_hosts.specs.Linkable.{Linkable}
use Rattle.linked_hosts.proofs.ReadyByRules.{well_typed_is_linkable}
use Rattle.linked_rules.specs.Fine.{CountAlike}
use Rattle.tree_linkage.specs.Trees.{linked_form, linked_trees}
use Rattle.tree_linkage.proofs.Theorem.{linked_form_is_given}
use Rattle.whole_properties.specs.Whole.{lower_monitor}
use Rattle.indus_tree.specs.Reports.{HasReportsBelow}
use Rattle.flat_laws.specs.Meaning.{IsPlainProperty}
use Rattle.faultless_programs.specs.Within.{LeavesRoom}
use Rattle.link_faults.specs.Faults.{link_fault}
use Rattle.link_faults.specs.NoFault.{HasNoFault}
use Rattle.link_faults.proofs.NoFault.{no_fault_says}
use Rattle.link_faults.proofs.Taken.{none_is_taken}
use Rattle.faultless_programs.proofs.Given.{no_fault_can_link}
use Rattle.linked_properties.specs.Linked.{CanBeLinked, given_in, trees_in, AreTextNames, IsPropertyLinked}
use Rattle.linked_properties.proofs.Linked.{faultless_is_linked}
use Rattle.program_linker.specs.Linked.{tables_in, AreLinked}
use Rattle.program_linker.specs.Parts.{trees_for, rows_for, lowered_in, rows_in, linked_at}

same_ports : (ls : List Link) (s : ℕ) → linked_ports ls s ≡ ports_at ls s
same_ports [] s = refl
same_ports (l ∷ ls) s =
    ap (λ (r : List ℕ). (if nat_eq s l.one then l.one_port ∷ [] else []) ++ ((if nat_eq s l.other then l.other_port ∷ [] else []) ++ r))
    (same_ports ls s)

-- what holds of each program of a list holds of what they are made from
each_of :
    {A : Type 0} (v : A → Program) (F : ℕ → Program) (P : Program → Type 0) (a : ℕ) (xs : List A) (n : ℕ) →
    map v xs ≡ map F (range_with_len a n) → ((s : ℕ) → s < a + n → P (F s)) → AllByRecursion (λ x. P (v x)) xs
each_of v F P a [] n e h = tt
each_of v F P a (x ∷ xs) zero e h = absurd cc
each_of v F P a (x ∷ xs) (suc n) e h =
    let first : v x ≡ F a = cc in
    let rest : map v xs ≡ map F (range_with_len (a + 1) n) = cc in
    (subst P (sym first) (h a (omega arith)), each_of v F P (a + 1) xs n rest (λ s l. h s (omega (arith, l))))

-- q: the program, as it was lent
pub can_be :
    (property : Property) (f q : Program) (room : ℕ) → q ≡ f → IsPlainProperty property → HasReportsBelow (2 ^ 16) property → IsWellTyped f → CanSpell f →
    LeavesRoom f → room ≤ 256 → link_fault q property room ≡ None → CanBeLinked property f room
can_be property f q room same plain reports typed spelled leaves small none =
    record {
      plain = plain;
      reports = reports;
      typed = typed;
      spelled = spelled;
      leaves = leaves;
      small = small;
      faultless = ap (λ (x : Program). link_fault x property room) (sym same) ∙ none;
    }

module _ (property : Property) (f : Program) (room : ℕ) (can : CanBeLinked property f room) where
  no : HasNoFault f property room
  no = (no_fault_says f property room).0 can.faultless

  -- no name of the program is taken
  pub given_names : HasGivenNames f
  given_names = none_is_taken f no.names

  controls : Linkable (linked_form f)
  controls = well_typed_is_linkable (linked_form f) (linked_form_is_given f (no_fault_can_link f can.typed can.spelled no.names))

  trees_are : lowered_in property (linked_form f) ≡ trees_in property f controls
  trees_are =
      ap (λ (c : Option Control). trees_for property c (control_in (linked_form f) 3)) controls.ready.ingress
      ∙ ap (trees_for property (Some controls.ingress)) controls.ready.egress

  rows_are : rows_in property (linked_form f) ≡ tables_in property f controls
  rows_are =
      ap (λ (c : Option Control). rows_for property c (control_in (linked_form f) 3)) controls.ready.ingress
      ∙ ap (rows_for property (Some controls.ingress)) controls.ready.egress

  module _ (exact : ReachesIsExact) (net : Network) (wired : IsWiring (wiring_of net)) where
    all : IsPropertyLinked property f controls (wiring_of net)
    all = faultless_is_linked exact property f room can controls (wiring_of net) wired

    -- l: the trees that were made, and q: what was made of the program
    pub each_is_typed :
        (l : Lowered) → l ≡ lowered_in property (linked_form f) → (q : Program) → q ≡ linked_form f →
        (size s : ℕ) → s < 256 → IsWellTyped (linked_at l size net q s)
    each_is_typed l is q same size s small =
        subst (λ (x : Lowered). IsWellTyped (linked_at x size net q s)) (sym (is ∙ trees_are))
        (subst (λ (x : Program). IsWellTyped (linked_at (trees_in property f controls) size net x s)) (sym same)
        (all.typed size s (linked_ports net.links s) (omega (arith, small))))

    pub each_counts_alike :
        (l : Lowered) → l ≡ lowered_in property (linked_form f) → (q : Program) → q ≡ linked_form f →
        (size s : ℕ) → s < 256 → CountAlike (linked_at l size net q s) (linked_at l size net q 0)
    each_counts_alike l is q same size s small =
        subst (λ (x : Lowered). CountAlike (linked_at x size net q s) (linked_at x size net q 0)) (sym (is ∙ trees_are))
        (subst (λ (x : Program). CountAlike (linked_at (trees_in property f controls) size net x s) (linked_at (trees_in property f controls) size net x 0)) (sym same)
        (all.counts size s (linked_ports net.links s) (omega (arith, small)) 0 (linked_ports net.links 0) (omega arith)))

    one_is :
        (l : Lowered) → l ≡ lowered_in property (linked_form f) → (q : Program) → q ≡ linked_form f →
        (size : ℕ) → size ≡ whole_bytes (property_bits property) → (s : ℕ) →
        linked_at l size net q s ≡ linked_trees (trees_in property f controls) (lower_monitor (given_in property f controls)) f (wiring_of net) s
    one_is l is q same size counted s =
        ap (λ (x : Lowered). linked_at x size net q s) (is ∙ trees_are)
        ∙ ap (λ (x : Program). linked_at (trees_in property f controls) size net x s) same
        ∙ ap (λ (n : ℕ). linked (trees_in property f controls) n s (linked_ports net.links s) (linked_form f)) (counted ∙ sym all.size)
        ∙ ap (λ (ports : List ℕ). linked (trees_in property f controls) (suc (lower_monitor (given_in property f controls)).room) s ports (linked_form f)) (same_ports net.links s)

    pub are_linked :
        (l : Lowered) → l ≡ lowered_in property (linked_form f) → (q : Program) → q ≡ linked_form f →
        (size : ℕ) → size ≡ whole_bytes (property_bits property) →
        (programs : List Program) → programs ≡ map (linked_at l size net q) (range_with_len 0 (length net.names)) →
        (rows : List (List ℕ × (List ℕ × Option ℕ))) → rows ≡ rows_in property q →
        AreLinked f property net programs rows
    are_linked l is q same size counted programs made rows read =
        record {
          controls = controls;
          linked = all;
          trees = made ∙ ap (λ (g : ℕ → Program). map g (range_with_len 0 (length net.names))) (λ i. λ s. one_is l is q same size counted s i);
          tables = read ∙ ap (rows_in property) same ∙ rows_are;
        }

    pub are_spelled :
        {A : Type 0} (v : A → Program) (xs : List A) (rows : List (List ℕ × (List ℕ × Option ℕ))) →
        AreLinked f property net (map v xs) rows → length net.names ≤ 256 → AreTextNames property.decls → All (λ x. CanSpell (v x)) xs
    are_spelled {A} v xs rows are few texts =
        All-from_recursion (λ (x : A). CanSpell (v x)) xs
        (each_of v (linked_trees (trees_in property f are.controls) (lower_monitor (given_in property f are.controls)) f (wiring_of net)) CanSpell 0 xs (length net.names) are.trees
        (λ s l. are.linked.spelled texts s (omega (arith, l, few))))
