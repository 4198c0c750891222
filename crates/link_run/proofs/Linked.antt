-- What is linked of a case, and what is claimed of it.
use Rattle.std.proofs.Common.{◌≡◌, ℕ, ◌<◌, ◌≤◌, List, length, map, Some, ap, sym, ◌∙◌, subst, arith}
use Rattle.std.specs.Prelude.{slice_get, Result, Ok, Err, IfOk}
use Rattle.std.proofs.lemmas.Option.{slice_get-get_or}
use Rattle.indus_tree.specs.Tree.{Property}
use Rattle.p4_tree.specs.Tree.{Program}
use Rattle.p4_printer.proofs.Whole.{text_is_printed}
use Rattle.network_file.specs.Network.{Network}
use Rattle.job_course.specs.Output.{Out}
use Rattle.linked_properties.specs.Linked.{AreTextNames}
use Rattle.loaded_tables.specs.Rows.{Row}
use Rattle.linked_starts.specs.Starts.{found_row}
use Rattle.program_linker.specs.Simpler.{AreSimplyLinked}
use Rattle.simplified_links.specs.Laws.{linked_tree, DoesTheSame}
use Rattle.simplified_links.proofs.Linked as simple
use Rattle.linked_jobs.specs.Job.{Job, IsReady}
use Rattle.linked_jobs.specs.Run.{Linked, no_program, linked_in}
use Rattle.linked_jobs.proofs.Programs.{programs_in_order}
use Rattle.run_headline.specs.Claims.{Claims}
use Rattle.run_headline.specs.Law.{LinkedProgramsKeepTheClaims}
use Rattle.run_job.specs.Course.{Base}
use Rattle.run_texts.specs.Files.{linked_files}
use Rattle.link_run.specs.Output.{linked_line, names_of, programs_of}
use Rattle.link_run.specs.Headline.{IsOn, LinkHeadline}

pub if_both : {A E : Type 0} (P Q R : A → Type 0) (r : Result A E) → ((a : A) → P a → Q a → R a) → IfOk r P → IfOk r Q → IfOk r R
if_both P Q R (Ok a) f h k = f a h k
if_both P Q R (Err e) f h k = tt

-- a property, a program and a network
record Place : Type 0 where
  property : Property
  program : Program
  network : Network

abbrev place_of : Job → Place
place_of j = record { property = j.property; program = j.program; network = j.network }

abbrev place_in : Base → Place
place_in b = record { property = b.property; program = b.host.program; network = b.host.network }

same_place : (b : Base) (j : Job) → IsOn b j → place_of j ≡ place_in b
same_place b j on =
    ap (λ (p : Property). record { property = p; program = j.program; network = j.network }) on.property
    ∙ ap (λ (f : Program). record { property = b.property; program = f; network = j.network }) on.program
    ∙ ap (λ (n : Network). record { property = b.property; program = b.host.program; network = n }) on.network

module _ (programs : List Program) (rows : List Row) where
  abbrev AreOn : Place → Type 0
  AreOn x = AreSimplyLinked x.program x.property x.network programs (map found_row rows)

  abbrev l : Linked
  l = linked_in programs rows

  -- the sentence holds of them, for a job there
  claims_at : LinkedProgramsKeepTheClaims → (j : Job) → IsReady j → (x : Place) → place_of j ≡ x → AreOn x → Claims j l
  claims_at law j ready x same are = law j ready programs rows (subst AreOn (sym same) are)

  module _ (b : Base) (few : length (names_of b) ≤ 256) (are : AreOn (place_in b)) where
    -- there are as many programs as switches
    pub counted : length programs ≡ length (names_of b)
    counted = simple.count b.host.program b.property b.host.network few programs (map found_row rows) are

    again : programs_of b l ≡ programs
    again = programs_in_order (length (names_of b)) programs counted

    -- each does what a linker's does
    same_at : AreTextNames b.property.decls → (s : ℕ) → s < length (names_of b) → DoesTheSame (linked_tree b.host.program b.property b.host.network are.linked s) (l.programs s)
    same_at names s lt =
        (let there : slice_get programs s ≡ Some (l.programs s) = slice_get-get_or programs s no_program (let n = counted in omega (arith, lt, n)) in
        simple.simply_linked_stand b.host.program b.property names b.host.network few programs (map found_row rows) are s (l.programs s) there)

    -- what is written of them is written of such programs
    pub headline : LinkedProgramsKeepTheClaims → AreTextNames b.property.decls → (out : List ℕ) (given : Out)
        → given.files ≡ linked_files out programs rows b.property.decls (names_of b) → given.text ≡ linked_line (length (names_of b)) → LinkHeadline b out given
    headline law names out given files text =
        record {
          linked = l;
          form = subst (λ (ps : List Program). AreSimplyLinked b.host.program b.property b.host.network ps (map found_row rows)) (sym again) are;
          typed = λ s lt. (same_at names s lt).typed;
          spelled = λ s lt. text_is_printed (l.programs s) (same_at names s lt).spelled;
          claims = λ j ready on. claims_at law j ready (place_in b) (same_place b j on) are;
          writes = record {
            files = files ∙ ap (λ (ps : List Program). linked_files out ps rows b.property.decls (names_of b)) (sym again);
            text = text;
          };
        }
