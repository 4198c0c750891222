-- The job of a property without control variables and a frame is ready to be run.
use Rattle.std.proofs.Common.{◌≡◌, ℕ, ◌≤◌, List, [], ◌∷◌, length, map, None, Ok, refl, sym, ap, ◌∙◌, subst, arith}
use Rattle.std.specs.Prelude.{Result}
use Rattle.std.specs.List.{All}
use Rattle.std.proofs.lemmas.List.Elements.{All-nil, All-cons}
use Rattle.outside.specs.State.{StoreState}
use Rattle.indus_tree.specs.Tree.{Property}
use Rattle.indus_tree.specs.State.{Contents}
use Rattle.p4_tree.specs.Tree.{Program}
use Rattle.p4_tables.specs.State.{Held, entries_in}
use Rattle.p4_tables.specs.Laws.{RunsListed}
use Rattle.p4_tables.specs.Programs.{state_before}
use Rattle.network_run.specs.Events.{Event}
use Rattle.network_run.specs.NetworkRun.{longest_frame}
use Rattle.network_run.specs.World.{Arrival}
use Rattle.network_file.specs.Network.{Network}
use Rattle.table_file.specs.Entries.{states_before}
use Rattle.table_file.specs.Laws.{AreOf}
use Rattle.control_file.specs.Control.{all_unset}
use Rattle.path_runner.specs.Conditions.{IsAtEdge}
use Rattle.table_items.specs.Items.{within_limits}
use Rattle.read_contents.specs.Fits.{IsFitEvent}
use Rattle.read_contents.specs.Laws.{FilesFit}
use Rattle.link_faults.specs.Faults.{link_fault}
use Rattle.job_course.specs.declared.status.Stop.{Stop}
use Rattle.job_course.specs.Steps.{Follows, Judged}
use Rattle.job_course.proofs.Courses.{judged_follows}
use Rattle.program_linker.specs.declared.linking.Linked as code
use Rattle.link_course.specs.Links.{LinksTo, IsNotLinked, link_course}
use Rattle.link_course.specs.Views.{linked_of}
use Rattle.linked_properties.specs.Linked.{CanBeLinked}
use Rattle.linked_jobs.specs.Job.{Job, IsReady}
use Rattle.run_captures.specs.Captures.{Time}
use Rattle.run_job.proofs.Given.{IsFitProperty}
use Rattle.wire_program.specs.WireProgram.{wire_program}
use Rattle.wire_job.specs.Line.{wire_network}
use Rattle.wire_job.specs.Known.{IsWireProgram}
use Rattle.wire_job.specs.Course.{first_control, arrival, beginning, wire_job}
use Rattle.wire_job.proofs.Network.{is_wiring}
use Rattle.wire_job.proofs.Control.{few_items}

-- ---- linking

-- a program and a network that are the wire program and the line
pub links_follow :
    (f g : Program) → f ≡ g → (p : Property) (m n : Network) → m ≡ n → (room : ℕ) (s : StoreState) (r : Result code.Linked Stop)
    → Judged (LinksTo f p m room) (IsNotLinked f p room) linked_of r → Follows (link_course g p n room) linked_of s s r
links_follow f g same p m n line room s r judged =
    subst (λ (x : Program). Follows (link_course x p n room) linked_of s s r) same
    (subst (λ (x : Network). Follows (link_course f p x room) linked_of s s r) line
    (judged_follows (LinksTo f p m room) (IsNotLinked f p room) linked_of s r judged))

-- ---- the job

-- what the program makes is the job, but for its program
pub job_is :
    (p : Property) (bytes : List ℕ) (f : Program) (n : Network) (ts : List (List Held)) (css : List (List Contents)) (arrivals : List Arrival) (times : List Time) (events : List (Event Contents))
    → n ≡ wire_network → ts ≡ states_before f n.names → css ≡ map (λ name. all_unset p.decls) n.names → arrivals ≡ arrival bytes ∷ [] → times ≡ beginning ∷ [] → events ≡ []
    → record { property = p; program = f; network = n; hops = 64; room = 128; tables = ts; contents = css; packets = arrivals; times = times; events = events }
    ≡ record (wire_job p bytes) { program = f; tables = states_before f wire_network.names }
job_is p bytes f n ts css arrivals times events network held contents packets time none =
    let tables = held ∙ ap (λ (x : Network). states_before f x.names) network in
    let all_contents = contents ∙ ap (λ (x : Network). map (λ name. all_unset p.decls) x.names) network in
    λ i. record { property = p; program = f; network = network i; hops = 64; room = 128; tables = tables i; contents = all_contents i; packets = packets i; times = time i; events = none i }

-- and with it, where that is the wire program
pub job_whole : (p : Property) (bytes : List ℕ) (f : Program) → f ≡ wire_program → record (wire_job p bytes) { program = f; tables = states_before f wire_network.names } ≡ wire_job p bytes
job_whole p bytes f same = ap (λ (x : Program). record (wire_job p bytes) { program = x; tables = states_before x wire_network.names }) same

-- the tables of all switches, where those of one are these
module _ (st : List Held) (is : st ≡ []) where
  abbrev three : List Held → List (List Held)
  three x = x ∷ x ∷ x ∷ []

  all_listed : All RunsListed (three st)
  all_listed =
      subst (λ (x : List Held). All RunsListed (three x)) (sym is)
      (All-cons RunsListed [] ([] ∷ [] ∷ []) tt (All-cons RunsListed [] ([] ∷ []) tt (All-cons RunsListed [] [] tt (All-nil RunsListed))))

  no_entries : map entries_in (three st) ≡ 0 ∷ 0 ∷ 0 ∷ []
  no_entries = ap (λ (x : List Held). map entries_in (three x)) is

module _ (f : Program) (known : IsWireProgram f) (p : Property) (bytes : List ℕ) (fit : IsFitProperty p) (free : first_control p.decls ≡ None) (short : length bytes ≤ 65535) (files : FilesFit) where
  -- the job, of this program
  abbrev job_of_it : Job
  job_of_it = record (wire_job p bytes) { program = f; tables = states_before f wire_network.names }

  at_edge : IsAtEdge wire_network longest_frame (arrival bytes)
  at_edge = record { switch = omega arith; port = omega arith; edge = refl; short = short }

  within : within_limits p (map entries_in (states_before f wire_network.names)) (map (λ name. all_unset p.decls) wire_network.names) [] ≡ Ok tt
  within =
      ap (λ (ns : List ℕ). within_limits p ns (map (λ name. all_unset p.decls) wire_network.names) []) (no_entries (state_before f) known.tables)
      ∙ few_items p (all_unset p.decls) (all_unset p.decls) (all_unset p.decls) free

  linkable : link_fault f p 128 ≡ None → CanBeLinked p f 128
  linkable faultless =
      record { plain = fit.plain; reports = fit.reports; typed = known.typed; spelled = known.spelled; leaves = known.leaves; small = omega arith; faultless = faultless }

  ready : AreOf f wire_network.names (states_before f wire_network.names) → link_fault f p 128 ≡ None → IsReady job_of_it
  ready tables faultless =
      let contents = files.unset p fit.typed wire_network.names in
      record {
        linkable = linkable faultless;
        names = fit.names;
        wiring = is_wiring;
        few_switches = omega arith;
        hops = omega arith;
        tables = tables;
        listed = all_listed (state_before f) known.tables;
        switches = contents.switches;
        contents = contents.contents;
        few = omega arith;
        packets = All-cons (IsAtEdge wire_network longest_frame) (arrival bytes) [] at_edge (All-nil (IsAtEdge wire_network longest_frame));
        events = All-nil (IsFitEvent 1 3 p.decls);
        items = within;
      }

  pub wire_is_ready : (j : Job) → j ≡ job_of_it → AreOf j.program j.network.names j.tables → link_fault j.program j.property j.room ≡ None → IsReady j
  wire_is_ready j is =
      let P : Job → Type 0 = λ x. AreOf x.program x.network.names x.tables → link_fault x.program x.property x.room ≡ None → IsReady x in
      subst P (sym is) ready
