use Rattle.std.proofs.Common.{ℕ, ◌+◌, ap, ◌∙◌, arith}
use Rattle.std.proofs.lemmas.List.{length-map}
use Rattle.indus_tree.specs.View.{decl_of}
use Rattle.p4_tree.specs.View.{program_of}
use Rattle.control_file.specs.Views.{contents_view}
use Rattle.network_run.specs.NetworkRun.{longest_frame}
use Rattle.set_contents.specs.Maps.{maps_of}
use Rattle.path_runner.specs.Packets.{arrival_of}
use Rattle.path_runner.specs.Views.{state_of}
use Rattle.linked_jobs.specs.Views.{job_of, programs_in, rows_in}
use Rattle.linked_net.proofs.First.{is_first}
use Rattle.linked_net.proofs.Jobs.{can_load_all, can_start}
use Rattle.linked_net.proofs.Loading.{moved}
use Rattle.linked_net.proofs.starting.start.Goals as goal

pub overflow_cast-count : goal.overflow_cast-count
overflow_cast-count g c = omega (arith, c.len-count.ensures, c.args.job.packets.ok.0, length-map c.args.job.packets.items arrival_of, c.requires.ready.few)

pub loaded_switches-requires : goal.loaded_switches-requires
loaded_switches-requires g c =
    let job = c.args.job in
    let j = job_of job in
    rw (c.deref.ensures.value, c.deref-2.ensures.value, c.deref-3.ensures.value, c.deref-4.ensures.value, c.property.ensures.same)
    (can_load_all j c.requires.ready (programs_in job.linked) (rows_in job.linked) c.requires.linked c.simply_linked_can_be_loaded.ensures c.jobs_have_room.ensures)

pub net_before-requires-clause-start : goal.net_before-requires-clause-start
net_before-requires-clause-start g c =
    let job = c.args.job in
    let j = job_of job in
    let states = c.in_ok-states.states.items in
    let maps = maps_of c.in_ok-states.maps.items in
    let loaded =
    moved (program_of job.program) (rows_in job.linked) program_of contents_view decl_of c.deref-2.result.now job.linked.programs.items c.deref.result.now job.tables.items c.deref-4.result.now job.contents.items
    c.deref-3.result.now job.property.decls.items states maps c.deref-2.ensures.value c.deref.ensures.value c.deref-4.ensures.value (c.deref-3.ensures.value ∙ ap (λ p. p.decls.items) c.property.ensures.same) c.in_ok-states.ensures in
    can_start j c.requires.ready (programs_in job.linked) (rows_in job.linked) c.requires.linked states maps loaded _ (ap (λ (n : ℕ). longest_frame + n) c.requires.layout.bytes)

pub returns-clause-first : goal.returns-clause-first
returns-clause-first g c = λ l these.
    let job = c.args.job in
    let j = job_of job in
    let states = c.in_ok-states.states.items in
    let maps = maps_of c.in_ok-states.maps.items in
    let loaded =
    moved (program_of job.program) (rows_in job.linked) program_of contents_view decl_of c.deref-2.result.now job.linked.programs.items c.deref.result.now job.tables.items c.deref-4.result.now job.contents.items
    c.deref-3.result.now job.property.decls.items states maps c.deref-2.ensures.value c.deref.ensures.value c.deref-4.ensures.value (c.deref-3.ensures.value ∙ ap (λ p. p.decls.items) c.property.ensures.same) c.in_ok-states.ensures in
    is_first j l (programs_in job.linked) (rows_in job.linked) these.programs these.rows states maps loaded _ (state_of c.in_ok-net.net) c.in_ok-net.ensures.state c.in_ok-net.ensures.worlds
    (ap (λ (n : ℕ). longest_frame + n) c.requires.layout.bytes)
