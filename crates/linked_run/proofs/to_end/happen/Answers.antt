use Rattle.std.proofs.Common.{◌≡◌, ◌+◌, List, ◌++◌, ◌∷◌, [], length, map, take, drop, ap, sym, ◌∙◌, subst, arith}
use Rattle.std.proofs.lemmas.List.{map_more, drop_more}
use Rattle.indus_tree.specs.State.{Contents}
use Rattle.network_run.specs.Events.{Event}
use Rattle.network_file.specs.Events.{event_of}
use Rattle.path_runner.specs.Nets.{RunsTo, tables_of}
use Rattle.path_runner.specs.Views.{state_of}
use Rattle.path_runner.proofs.Running.{runs_then, same_then}
use Rattle.linked_run.specs.Happening.{CanHappen}
use Rattle.linked_run.proofs.Happens.{possible, behind}
use Rattle.linked_run.proofs.to_end.happen.Goals as goal

pub step-requires : goal.step-requires
step-requires g c =
    let s = state_of c.args.net.now in
    let t = state_of c.loop-event.net in
    let xs = c.args.events.now in
    let i = c.loop-event.event-index in
    let x = c.event-item.result in
    let rest : map event_of (drop i xs) ≡ event_of x ∷ map event_of (drop (i + 1) xs) = ap (map event_of) (drop_more xs i x (omega arith)) ∙ ap (λ y. event_of y ∷ map event_of (drop (i + 1) xs)) (sym c.event-item.is) in
    possible s t (event_of x) c.loop-event.invariant.same (subst (CanHappen (length s.places) s.maps (tables_of t)) rest c.loop-event.invariant.left).0

pub loop-event-preserved : goal.loop-event-preserved
loop-event-preserved g c =
    let s = state_of c.args.net.now in
    let t = state_of c.loop-event.net in
    let u = state_of c.step.new.self in
    let xs = c.args.events.now in
    let i = c.loop-event.event-index in
    let x = c.event-item.result in
    let done = map event_of (take i xs) in
    let more : done ++ event_of x ∷ [] ≡ map event_of (take (i + 1) xs) = ap (λ y. done ++ event_of y ∷ []) c.event-item.is ∙ sym (map_more event_of xs i x (omega arith)) in
    let rest : map event_of (drop i xs) ≡ event_of x ∷ map event_of (drop (i + 1) xs) = ap (map event_of) (drop_more xs i x (omega arith)) ∙ ap (λ y. event_of y ∷ map event_of (drop (i + 1) xs)) (sym c.event-item.is) in
    record {
      same = same_then s t u c.loop-event.invariant.same c.step.ensures.same;
      runs = subst (λ (es : List (Event Contents)). RunsTo s es u) more (runs_then s t u done (event_of x ∷ []) c.loop-event.invariant.same c.loop-event.invariant.runs c.in_ok-step.ensures.happens);
      left =
          behind s t u (event_of x) (map event_of (drop (i + 1) xs)) c.loop-event.invariant.same c.in_ok-step.ensures.tables
          (subst (CanHappen (length s.places) s.maps (tables_of t)) rest c.loop-event.invariant.left);
    }
