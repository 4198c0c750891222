use Rattle.std.proofs.Common.{◌≡◌, ◌+◌, List, ◌++◌, ◌∷◌, [], length, map, take, ap, sym, ◌∙◌, subst, arith}
use Rattle.std.proofs.Math.ListN.{get_or-map}
use Rattle.std.proofs.lemmas.List.{map_more, length-map}
use Rattle.indus_tree.specs.State.{Contents}
use Rattle.network_run.specs.Events.{Event}
use Rattle.network_file.specs.Events.{event_of}
use Rattle.path_runner.specs.Nets.{RunsTo}
use Rattle.path_runner.specs.Views.{state_of}
use Rattle.path_runner.proofs.Running.{runs_then, same_then}
use Rattle.forward_run.specs.Job.{IsEventAmong}
use Rattle.forward_run.proofs.Starting.{event_stays}
use Rattle.forward_run.proofs.run.happen.Goals as goal

pub step-requires : goal.step-requires
step-requires g c =
    let s = state_of c.args.net.now in
    let xs = c.args.events.now in
    let i = c.loop-event.event-index in
    let x = c.event-item.result in
    let is = subst (IsEventAmong (length s.places) (length s.switches)) (get_or-map event_of xs i x ∙ ap event_of (sym c.event-item.is)) (c.requires.events i (event_of x) (omega (arith, length-map xs event_of))) in
    event_stays s (state_of c.loop-event.net) (event_of x) c.loop-event.invariant.same c.requires.maps is

pub loop-event-preserved : goal.loop-event-preserved
loop-event-preserved g c =
    let s = state_of c.args.net.now in
    let t = state_of c.loop-event.net in
    let u = state_of c.step.new.self in
    let xs = c.args.events.now in
    let i = c.loop-event.event-index in
    let x = c.event-item.result in
    let done = map event_of (take i xs) in
    let more : done ++ event_of x ∷ [] ≡ map event_of (take (i + 1) xs) = ap (λ y. done ++ event_of y ∷ []) c.event-item.is ∙ sym (map_more event_of xs i x (omega arith)) in
    record {
      same = same_then s t u c.loop-event.invariant.same c.step.ensures.same;
      runs = subst (λ (es : List (Event Contents)). RunsTo s es u) more (runs_then s t u done (event_of x ∷ []) c.loop-event.invariant.same c.loop-event.invariant.runs c.in_ok-step.ensures.happens);
    }
