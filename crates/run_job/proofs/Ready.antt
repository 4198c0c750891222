-- A job that the files may give is ready to be run.
use Rattle.std.proofs.Common.{true, ℕ, ◌<◌, ◌≤◌, List, length, map, Option, Some, None, Ok, sym, subst}
use Rattle.std.specs.List.{All}
use Rattle.std.proofs.lemmas.List.Elements.{All-nil}
use Rattle.outside.specs.State.{StoreState}
use Rattle.indus_tree.specs.Tree.{Property}
use Rattle.indus_tree.specs.View.{property_of}
use Rattle.indus_tree.specs.State.{Contents}
use Rattle.indus_rules.specs.Rules as indus
use Rattle.plain_texts.specs.Texts.{TextsArePlain, TextsDeclareWords}
use Rattle.network_run.specs.Events.{Event}
use Rattle.network_run.specs.Network.{IsWiring}
use Rattle.network_file.specs.Wiring.{wiring_of}
use Rattle.p4_tree.specs.View.{program_of}
use Rattle.p4_printer.specs.CanSpell.{CanSpell}
use Rattle.p4_tables.specs.Laws.{RunsListed}
use Rattle.tele_layout.specs.Layouts.{IsLayoutOf}
use Rattle.case_file.specs.Case.{Case}
use Rattle.table_file.specs.Laws.{AreOf}
use Rattle.linked_starts.specs.Starts.{found_row}
use Rattle.linked_properties.specs.Linked.{CanBeLinked, AreTextNames}
use Rattle.program_linker.specs.Linked.{AreLinked}
use Rattle.read_contents.specs.Fits.{IsFitEvent}
use Rattle.read_contents.specs.Laws.{FitSwitches, FilesFit, SchedulesFit}
use Rattle.job_course.specs.Course.{and_then}
use Rattle.job_course.specs.Steps.{Follows}
use Rattle.table_course.specs.Files.{events_course}
use Rattle.control_course.specs.Files.{contents_course}
use Rattle.case_course.specs.Packets.{Packets}
use Rattle.case_course.proofs.CaseLemmas.{hops_are_some, room_is_small}
use Rattle.case_course.proofs.PlaceLemmas.{IsPlace}
use Rattle.case_course.proofs.Read.{ground_is_placed, packets_are_few, packets_arrive}
use Rattle.linked_jobs.specs.Job.{Job, IsReady}
use Rattle.linked_jobs.specs.Views.{job_of, IsLinkedJob}
use Rattle.linked_jobs.specs.declared.job.LinkedJob.{LinkedJob}
use Rattle.run_job.specs.Course.{Base, Rest, Task, around, property_name, base_course, linked_course, rest_course, task_from, run_course}
use Rattle.run_job.specs.Views.{IsLinkedBase, base_of, task_of}
use Rattle.run_job.specs.declared.load.Base as code
use Rattle.run_job.proofs.Given.{IsFitProperty, property_is_fit, ground_is_fit}

-- ---- before the entries

-- what is known of a property and a program that are linked on a network
pub record IsBased (room : ℕ) (b : Base) : Type 0 where
  property : IsFitProperty b.property
  linkable : CanBeLinked b.property b.host.program room
  places : All (IsPlace b.host.network) b.host.places
  linked : AreLinked b.host.program b.property b.host.network b.linked.programs (map found_row b.linked.rows)

pub based : TextsArePlain → TextsDeclareWords → (name : List ℕ) (c : Case) (b : Base) → c.room ≤ 256 → 0 < length b.host.network.names → (base_course name c).may b → IsBased c.room b
unfolding base_course and_then
based plain words name c b small some (p, a, (g, h, (l, links, is))) =
    let P : Base → Type 0 = λ x. 0 < length x.host.network.names → IsBased c.room x in
    subst P (sym is) (λ switches.
    let property = property_is_fit plain words p (property_name c) a in
    let program = ground_is_fit name c g switches h in
    record {
      property = property;
      linkable = record { plain = property.plain; reports = property.reports; typed = program.typed; spelled = program.spelled; leaves = program.leaves; small = small; faultless = links.faultless };
      places = ground_is_placed name c g h;
      linked = links.linked;
    }) some

-- what was linked for a case is a linker's answer
module _ (plain : TextsArePlain) (words : TextsDeclareWords) where
  is_linked : (name : List ℕ) (b : Base) → 0 < length b.host.network.names → (linked_course name).may b → AreTextNames b.property.decls × AreLinked b.host.program b.property b.host.network b.linked.programs (map found_row b.linked.rows)
  unfolding linked_course and_then
  is_linked name b some (d, a, (c, is, base)) =
      let on = based plain words name c b (room_is_small true d c is) some base in
      (on.property.names, on.linked)

  pub linked_base : (name : List ℕ) (s t : StoreState) (b : code.Base) → Follows (linked_course name) base_of s t (Ok b) → 0 < length b.site.network.names → length b.site.network.names ≤ 256
      → All (λ q. CanSpell (program_of q)) b.site.linked.programs.items → IsLinkedBase b
  linked_base name s t b follows some few spelled =
      let linked = is_linked name (base_of b) some follows.keeps.may in
      record { names = linked.0; few = few; linked = linked.1; spelled = spelled }

-- ---- behind them

-- the contents fit
files : FilesFit → (p : Property) → indus.IsWellTyped p → (names : List (List ℕ)) (name : Option (List ℕ)) (css : List (List Contents)) → (contents_course name p.decls names).may css → FitSwitches p.decls names css
unfolding and_then
files fit p typed names None css is = subst (FitSwitches p.decls names) (sym is) (fit.unset p typed names)
files fit p typed names (Some x) css (d, may, is) = fit.read p typed names d css is

-- the schedule speaks of what is there, and sets what fits
events : SchedulesFit → (b : Base) → indus.IsWellTyped b.property → (ps : Packets) (name : Option (List ℕ)) (es : List (Event Contents)) → (events_course name (around b ps)).may es
    → All (IsFitEvent (length ps.arrivals) (length b.host.network.names) b.property.decls) es
unfolding and_then
events fit b typed ps None es is =
    let P : Event Contents → Type 0 = IsFitEvent (length ps.arrivals) (length b.host.network.names) b.property.decls in subst (All P) (sym is) (All-nil P)
events fit b typed ps (Some x) es (d, may, is) = fit b.property typed (length ps.arrivals) b.host.network.names d es is

-- ---- the job

-- what the program keeps of a job
pub record IsKept (j : Job) : Type 0 where
  pub tables : AreOf j.program j.network.names j.tables
  pub listed : All RunsListed j.tables
  pub some : 0 < length j.network.names
  pub few : length j.network.names ≤ 256
  pub wiring : IsWiring (wiring_of j.network)

pub record IsRead (t : Task) : Type 0 where
  pub ready : IsReady t.job
  pub linked : AreLinked t.job.program t.job.property t.job.network t.linked.programs (map found_row t.linked.rows)

module _ (plain : TextsArePlain) (words : TextsDeclareWords) (fit : FilesFit) (speaks : SchedulesFit) where
  rest_is_read : (name : List ℕ) (c : Case) (b : Base) (r : Rest) → 1 ≤ c.hops → c.room ≤ 256 → IsKept (task_from c b r).job → (base_course name c).may b → (rest_course name c b).may r → IsRead (task_from c b r)
  unfolding rest_course and_then
  rest_is_read name c b r hops small kept base (tables, h, (css, i, (ps, j, (es, k, (few, items, is))))) =
      let P : Rest → Type 0 = λ x. IsKept (task_from c b x).job → IsRead (task_from c b x) in
      subst P (sym is) (λ keeps.
      let on = based plain words name c b small keeps.some base in
      let contents = files fit b.property on.property.typed b.host.network.names c.control css i in
      record {
        ready = record {
          linkable = on.linkable;
          names = on.property.names;
          wiring = keeps.wiring;
          few_switches = keeps.few;
          hops = hops;
          tables = keeps.tables;
          listed = keeps.listed;
          switches = contents.switches;
          contents = contents.contents;
          few = packets_are_few name c b.host.places ps j;
          packets = packets_arrive name c b.host.places ps b.host.network on.places j;
          events = events speaks b on.property.typed ps c.schedule es k;
          items = items;
        };
        linked = on.linked;
      }) kept

  is_read : (name : List ℕ) (t : Task) → IsKept t.job → (run_course name).may t → IsRead t
  unfolding run_course and_then
  is_read name t kept (d, a, (c, is, (b, base, (r, may, same)))) =
      let P : Task → Type 0 = λ x. IsKept x.job → IsRead x in
      subst P (sym same) (λ keeps. rest_is_read name c b r (hops_are_some true d c is) (room_is_small true d c is) keeps base may) kept

  -- so is one that was read
  pub linked_job : (name : List ℕ) (s t : StoreState) (j : LinkedJob) → Follows (run_course name) task_of s t (Ok j) → IsKept (job_of j)
      → All (λ q. CanSpell (program_of q)) j.linked.programs.items → IsLayoutOf (property_of j.property) j.linked.layout → IsLinkedJob j
  linked_job name s t j follows kept spelled layout =
      let read = is_read name (task_of j) kept follows.keeps.may in
      record { ready = read.ready; linked = read.linked; spelled = spelled; layout = layout }
