-- A job that the files may give is ready to be run.
use Rattle.std.proofs.Common.{false, ◌≡◌, ℕ, ◌≤◌, List, [], length, Option, Some, None, Result, Ok, Err, IfOk, refl, sym, subst}
use Rattle.std.specs.List.{All}
use Rattle.std.proofs.lemmas.List.Elements.{All-nil, All-from_get_or}
use Rattle.indus_tree.specs.State.{Contents}
use Rattle.network_run.specs.Events.{Event}
use Rattle.network_run.specs.NetworkRun.{longest_frame}
use Rattle.p4_tree.specs.Tree.{Program}
use Rattle.p4_printer.specs.CanSpell.{CanSpell}
use Rattle.p4_tables.specs.Programs.{IsStateOf}
use Rattle.path_runner.specs.Conditions.{IsAtEdge}
use Rattle.case_file.specs.Case.{Case}
use Rattle.table_file.specs.Entries.{States}
use Rattle.table_file.specs.Laws.{AreOf}
use Rattle.outside.specs.State.{StoreState}
use Rattle.job_course.specs.declared.status.Stop.{Stop}
use Rattle.job_course.specs.Course.{and_then}
use Rattle.job_course.specs.Steps.{Follows}
use Rattle.table_course.specs.Files.{events_course}
use Rattle.forward_run.specs.Job.{Job, IsReady, IsEventAmong}
use Rattle.forward_run.specs.Views.{job_of}
use Rattle.forward_run.specs.declared.job.ForwardJob.{ForwardJob}
use Rattle.case_course.specs.Packets.{Packets}
use Rattle.case_course.specs.Course.{Ground}
use Rattle.case_course.proofs.CaseLemmas.{hops_are_some}
use Rattle.case_course.proofs.PlaceLemmas.{IsPlace}
use Rattle.case_course.proofs.Read.{ground_is_placed, ground_is_spelled, packets_are_few, packets_arrive}
use Rattle.forward_job.specs.Course.{around, loaded_course, forward_course}
use Rattle.forward_job.proofs.EventLemmas.{events_are_here}

pub schedule_speaks : (name : Option (List ℕ)) (g : Ground) (ps : Packets) (es : List (Event Contents)) → (events_course name (around g ps)).may es → All (IsEventAmong (length ps.arrivals) (length g.network.names)) es
unfolding and_then
schedule_speaks None g ps es is = subst (All (IsEventAmong (length ps.arrivals) (length g.network.names))) (sym is) (All-nil (IsEventAmong (length ps.arrivals) (length g.network.names)))
schedule_speaks (Some x) g ps es (d, may, e) = events_are_here (length ps.arrivals) g.network.names d es e

-- what is loaded on such ground
record IsLoaded (c : Case) (g : Ground) (j : Job) : Type 0 where
  program : j.program ≡ g.program
  hops : j.hops ≡ c.hops
  few : length j.packets ≤ 100000
  packets : All (IsAtEdge j.network longest_frame) j.packets
  events : All (IsEventAmong (length j.packets) (length j.network.names)) j.events

loaded : (name : List ℕ) (c : Case) (g : Ground) (j : Job) → All (IsPlace g.network) g.places → (loaded_course name c g).may j → IsLoaded c g j
unfolding loaded_course and_then
loaded name c g j h (ts, a, (ps, b, (es, d, is))) =
    subst (IsLoaded c g) (sym is)
    (record {
      program = refl;
      hops = refl;
      few = packets_are_few name c g.places ps b;
      packets = packets_arrive name c g.places ps g.network h b;
      events = schedule_speaks c.schedule g ps es d;
    })

tables_all : (p : Program) (names : List (List ℕ)) (sts : States) → AreOf p names sts → All (IsStateOf p) sts
tables_all p names sts h = All-from_get_or (IsStateOf p) sts [] (λ i lt. h.each i lt)

pub is_ready : (name : List ℕ) (j : Job) → AreOf j.program j.network.names j.tables → (forward_course name).may j → IsReady j
unfolding forward_course and_then
is_ready name j are (d, a, (c, is, (g, b, may))) =
    let l = loaded name c g j (ground_is_placed name c g b) may in
    record {
      spelled = subst CanSpell (sym l.program) (ground_is_spelled name c g b);
      hops = subst (λ (n : ℕ). 1 ≤ n) (sym l.hops) (hops_are_some false d c is);
      switches = are.count;
      tables = tables_all j.program j.network.names j.tables are;
      few = l.few;
      packets = l.packets;
      events = l.events;
    }

-- so is one that was read
pub if_ready : (name : List ℕ) (s t : StoreState) (r : Result ForwardJob Stop) → Follows (forward_course name) job_of s t r
    → IfOk r (λ j. AreOf (job_of j).program (job_of j).network.names (job_of j).tables) → IfOk r (λ j. IsReady (job_of j))
if_ready name s t (Ok j) h are = is_ready name (job_of j) are h.keeps.may
if_ready name s t (Err e) h are = tt
