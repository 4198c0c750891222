use Rattle.std.proofs.Common.{◌≡◌, length, map, refl, sym, ap, ◌∙◌, subst}
use Rattle.std.proofs.lemmas.List.{length-map}
use Rattle.indus_tree.specs.View.{decl_of}
use Rattle.p4_tree.specs.View.{program_of}
use Rattle.network_file.specs.Events.{event_of}
use Rattle.network_run.specs.NetworkRun.{Limits}
use Rattle.path_runner.specs.Nets.{RunsTo, tables_of}
use Rattle.path_runner.specs.Packets.{arrival_of}
use Rattle.path_runner.specs.Views.{state_of, log_of}
use Rattle.run_captures.specs.Views.{time_view}
use Rattle.run_output.specs.Ends.{Parts, IsEnd}
use Rattle.linked_starts.specs.Starts.{found_row}
use Rattle.simplified_links.proofs.Linked as simple
use Rattle.linked_jobs.specs.Run.{linked_in}
use Rattle.linked_jobs.specs.Views.{AreThese, job_of, programs_in, rows_in}
use Rattle.linked_jobs.proofs.Programs.{programs_again, is_linked}
use Rattle.linked_run.specs.Happening.{CanHappen}
use Rattle.linked_run.specs.Output.{parts_of}
use Rattle.linked_run.proofs.Started.{schedule_can_happen}
use Rattle.linked_run.proofs.Ending.{is_end, at_end, network}
use Rattle.linked_run.proofs.to_end.run_to_end.Goals as goal

pub happen-requires : goal.happen-requires
happen-requires g c =
    let job = c.args.job in
    let j = job_of job in
    let ps = programs_in job.linked in
    let l = linked_in ps (rows_in job.linked) in
    let count = simple.count j.program j.property j.network c.requires.ready.few_switches ps (map found_row (rows_in job.linked)) c.requires.linked in
    let these : AreThese job l = record { programs = programs_again j ps (rows_in job.linked) count; rows = refl } in
    let s = state_of c.in_ok-net.field-0.net in
    let events = c.deref-2.ensures.value ∙ ap (λ v. v.items) c.in_ok-net.ensures.rest.events in
    subst (λ es. CanHappen (length s.places) s.maps (tables_of s) (map event_of es)) (sym events)
    (schedule_can_happen j l s (c.in_ok-net.ensures.first l these) (c.jobs_have_room.ensures j l c.requires.ready (is_linked j ps (rows_in job.linked) count c.requires.linked)))

pub returns-clause-finished : goal.returns-clause-finished
returns-clause-finished g c =
    let job = c.args.job in
    let j = job_of job in
    let ps = programs_in job.linked in
    let l = linked_in ps (rows_in job.linked) in
    let count = simple.count j.program j.property j.network c.requires.ready.few_switches ps (map found_row (rows_in job.linked)) c.requires.linked in
    let again = programs_again j ps (rows_in job.linked) count in
    let these : AreThese job l = record { programs = again; rows = refl } in
    let rest = c.in_ok-net.ensures.rest in
    let s = state_of c.in_ok-net.field-0.net in
    let t = state_of c.happen.new.net in
    let u = log_of g.B.Unit.Pass.program g.B.Unit.Pass.tables g.B.Unit.Pass.cells t.limits c.in_ok-log.log in
    let events = c.deref-2.ensures.value ∙ ap (λ v. v.items) rest.events in
    let runs : RunsTo s j.events t = subst (λ es. RunsTo s (map event_of es) t) events c.in_ok-happen.ensures.runs in
    let none : Limits = record { hops = 0; link = 0 } in
    let first = c.in_ok-net.ensures.first l these in
    let programs = c.in_ok-programs.ensures.same ∙ (ap (map program_of) c.deref.ensures.value ∙ sym again) in
    let rows = ap (λ m. m.tables.items) rest.map in
    let decls = ap (λ p. map decl_of p.decls.items) rest.property in
    let times = ap (λ v. map time_view v.items) rest.times in
    let packets = rest.packets ∙ sym (length-map job.packets.items arrival_of) in
    let before : Parts = record {
      programs = map program_of c.in_ok-programs.programs.items;
      rows = c.in_ok-net.field-0.map.tables.items;
      decls = map decl_of c.in_ok-net.field-0.property.decls.items;
      times = map time_view c.in_ok-net.field-0.times.items;
      packets = c.in_ok-net.field-0.packets;
    } in
    let parts : before ≡ parts_of j l = λ i. record { programs = programs i; rows = rows i; decls = decls i; times = times i; packets = packets i } in
    record {
      linked = l;
      claims = c.linked_programs_keep_the_claims.ensures j c.requires.ready (programs_in job.linked) (rows_in job.linked) c.requires.linked;
      parts = parts;
      network = network j l s t u first c.happen.ensures.same runs c.in_ok-log.ensures.ends c.in_ok-log.ensures.kept;
      end =
          subst (λ ps. IsEnd ps (record u { limits = none })) (sym programs)
          (is_end j l s t u first c.happen.ensures.same runs c.in_ok-log.ensures.ends c.in_ok-log.ensures.kept c.requires.ready none);
      shows = at_end j l s t u first c.happen.ensures.same runs c.in_ok-log.ensures.ends c.in_ok-log.ensures.kept c.requires.ready none;
    }
