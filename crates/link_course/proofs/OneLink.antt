-- What is linked is one, or there is the refusal that is named.
use Rattle.std.proofs.Common.{◌≡◌, ℕ, List, [], ◌∷◌, ◌++◌, map, length, Option, Some, None, refl, sym, ap, ap₂, ◌∙◌}
use Rattle.std.specs.List.{range_with_len}
use Rattle.indus_tree.specs.Tree.{Property}
use Rattle.p4_tree.specs.Tree.{Control, Program}
use Rattle.p4_meaning.specs.Parts.{control_in}
use Rattle.network_file.specs.Network.{Network}
use Rattle.network_file.specs.Wiring.{wiring_of}
use Rattle.linked_programs.specs.Linked.{control_roots}
use Rattle.tree_linkage.specs.Trees.{linked_form, linked_trees}
use Rattle.whole_properties.specs.Whole.{Given, lower_monitor}
use Rattle.monitor_trees.specs.Trees.{trees_of}
use Rattle.lower_blocks.specs.Trees.{mapped, entry_lookups, exit_lookups}
use Rattle.link_faults.specs.Refusals.{Refusal}
use Rattle.link_faults.specs.Faults.{link_fault}
use Rattle.loaded_tables.specs.Rows.{Row}
use Rattle.linked_starts.specs.Starts.{found_row}
use Rattle.program_linker.specs.Linked.{AreLinked}
use Rattle.job_course.specs.declared.status.Status.TheVariants.{NotLinked}
use Rattle.job_course.specs.Steps.{Settles, Rejects}
use Rattle.link_course.specs.Lines.{link_line}
use Rattle.link_course.specs.Links.{Linked, LinksTo, IsNotLinked}

-- a row by what is found of it
abbrev row_back : List ℕ × (List ℕ × Option ℕ) → Row
row_back (c, (t, None)) = (c, t, 0)
row_back (c, (t, Some v)) = (c, t, v)

rows_back : (rs : List Row) → map row_back (map found_row rs) ≡ rs
rows_back [] = refl
rows_back (r ∷ rs) = ap (λ (xs : List Row). r ∷ xs) (rows_back rs)

one_control : (c : Option Control) (i j : Control) → c ≡ Some i → c ≡ Some j → i ≡ j
one_control c i j p q = let e : Some i ≡ Some j = sym p ∙ q in cc

module _ (f : Program) (property : Property) (net : Network) where
  -- in an ingress and an egress
  abbrev given_at : Control → Control → Given
  given_at i e = record { property = property; ingress = i.name; egress = e.name }

  abbrev programs_at : Control → Control → List Program
  programs_at i e =
      map (linked_trees (trees_of (given_at i e) (control_roots i) (control_roots e)) (lower_monitor (given_at i e)) f (wiring_of net)) (range_with_len 0 (length net.names))

  abbrev rows_at : Control → Control → List (List ℕ × (List ℕ × Option ℕ))
  rows_at i e = mapped property i.name (entry_lookups (given_at i e)) ++ mapped property e.name (exit_lookups (given_at i e))

  module _ (room : ℕ) (l : Linked) where
    one_link : (other : Linked) → AreLinked f property net l.programs (map found_row l.rows) → AreLinked f property net other.programs (map found_row other.rows) → l ≡ other
    one_link other a b =
        let i = one_control (control_in (linked_form f) 2) a.controls.ingress b.controls.ingress a.controls.ready.ingress b.controls.ready.ingress in
        let e = one_control (control_in (linked_form f) 3) a.controls.egress b.controls.egress a.controls.ready.egress b.controls.ready.egress in
        let programs : l.programs ≡ other.programs = a.trees ∙ ap₂ programs_at i e ∙ sym b.trees in
        let tables : map found_row l.rows ≡ map found_row other.rows = a.tables ∙ ap₂ rows_at i e ∙ sym b.tables in
        let rows : l.rows ≡ other.rows = sym (rows_back l.rows) ∙ ap (map row_back) tables ∙ rows_back other.rows in
        ap₂ (λ (ps : List Program) (rs : List Row). record { programs = ps; rows = rs }) programs rows

    pub is_linked : link_fault f property room ≡ None → AreLinked f property net l.programs (map found_row l.rows) → Settles (LinksTo f property net room) (IsNotLinked f property room) l
    is_linked none linked = record {
      given = record { faultless = none; linked = linked };
      alone = λ other w. one_link other linked w.linked;
      free = λ s line refused. let no : None ≡ Some refused.1.0 = sym none ∙ refused.1.1 in absurd cc;
    }

  pub is_not_linked : (room : ℕ) (r : Refusal) (line : List ℕ) → link_fault f property room ≡ Some r → line ≡ link_line r → Rejects (LinksTo f property net room) (IsNotLinked f property room) NotLinked line
  is_not_linked room r line is e = record {
    kind = tt;
    admitted = (refl, (r, is, e));
    given = λ l w. let no : None ≡ Some r = sym w.faultless ∙ is in absurd cc;
    other = λ s other refused. refused.0;
  }
