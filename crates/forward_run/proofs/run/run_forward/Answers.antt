use Rattle.std.proofs.Common.{◌≡◌, length, map, sym, ap, ◌∙◌, subst, arith, refl}
use Rattle.std.proofs.lemmas.List.{length-map}
use Rattle.p4_tree.specs.View.{program_of}
use Rattle.network_file.specs.Events.{event_of}
use Rattle.path_runner.specs.Nets.{RunsTo}
use Rattle.path_runner.specs.Packets.{arrival_of}
use Rattle.path_runner.specs.Views.{state_of, log_of}
use Rattle.run_captures.specs.Views.{time_view}
use Rattle.job_course.specs.Output.{out_of}
use Rattle.forward_run.specs.Files.{IsForwardOutput}
use Rattle.forward_run.specs.Job.{Job}
use Rattle.forward_texts.specs.Switches.{log_view}
use Rattle.forward_run.specs.Switches.{IsEndOf}
use Rattle.forward_run.specs.Views.{job_of}
use Rattle.forward_run.proofs.Starting.{events_fit, start_unmapped}
use Rattle.forward_run.proofs.Ending.{end_is, end_of}
use Rattle.forward_run.proofs.Written.{if_ok}
use Rattle.forward_run.proofs.run.run_forward.Goals as goal

pub overflow_cast-count : goal.overflow_cast-count
overflow_cast-count g c = omega (arith, c.len-count.ensures, c.args.job.packets.ok.0, length-map c.args.job.packets.items arrival_of, c.requires.few)

pub net_before-requires-clause-few : goal.net_before-requires-clause-few
net_before-requires-clause-few g c = omega (arith, length-map c.args.job.packets.items arrival_of, c.requires.few)

pub happen-requires-clause-maps : goal.happen-requires-clause-maps
happen-requires-clause-maps g c = start_unmapped (job_of c.args.job) (state_of c.in_ok-net.net) c.in_ok-net.ensures.state

pub happen-requires-clause-events : goal.happen-requires-clause-events
happen-requires-clause-events g c =
    let j = job_of c.args.job in
    let s = state_of c.in_ok-net.net in
    rw c.deref.ensures.value (events_fit j s c.in_ok-net.ensures.state c.requires.switches c.requires.events)

pub output_of-requires : goal.output_of-requires
output_of-requires g c =
    let j = job_of c.args.job in
    let s = state_of c.in_ok-net.net in
    let t = state_of c.happen.new.net in
    let u = log_of g.B.Unit.Pass.program g.B.Unit.Pass.tables g.B.Unit.Pass.cells t.limits c.in_ok-log.log in
    let runs : RunsTo s j.events t = subst (λ es. RunsTo s (map event_of es) t) c.deref.ensures.value c.in_ok-happen.ensures.runs in
    end_is j s t u c.in_ok-net.ensures.state c.in_ok-net.ensures.starts c.happen.ensures.same runs c.in_ok-log.ensures.ends c.in_ok-log.ensures.kept c.requires.switches c.requires.few (record { hops = 0; link = 0 })

pub returns : goal.returns
returns g c =
    let j = job_of c.args.job in
    let s = state_of c.in_ok-net.net in
    let t = state_of c.happen.new.net in
    let u = log_of g.B.Unit.Pass.program g.B.Unit.Pass.tables g.B.Unit.Pass.cells t.limits c.in_ok-log.log in
    let runs : RunsTo s j.events t = subst (λ es. RunsTo s (map event_of es) t) c.deref.ensures.value c.in_ok-happen.ensures.runs in
    let at_end = end_of j s t u c.in_ok-net.ensures.state c.in_ok-net.ensures.starts c.happen.ensures.same runs c.in_ok-log.ensures.ends c.in_ok-log.ensures.kept c.requires.switches c.requires.few (record { hops = 0; link = 0 }) in
    let log = c.in_ok-log.log in
    let counted : length j.packets ≡ c.len-count.result = length-map c.args.job.packets.items arrival_of ∙ sym (c.len-count.ensures ∙ c.args.job.packets.ok.0) in
    if_ok
    (λ o. (k : Job) → IsEndOf k (log_view g.B.Unit.Pass.program g.B.Unit.Pass.tables g.B.Unit.Pass.cells log) → k.program ≡ program_of c.args.job.program → k.times ≡ map time_view c.deref-2.result.now → length k.packets ≡ c.len-count.result → IsForwardOutput k c.args.out.now (out_of o))
    (λ o. IsForwardOutput j c.args.out.now (out_of o))
    c.output_of.result (λ o given. given j at_end refl (ap (map time_view) (sym c.deref-2.ensures.value)) counted) c.output_of.ensures
