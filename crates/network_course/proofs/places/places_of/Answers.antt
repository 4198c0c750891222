use Rattle.std.proofs.Common.{arith}
use Rattle.std.proofs.lemmas.List.{map_push}
use Rattle.std.proofs.lemmas.Result.{err_from_is_err_and}
use Rattle.json_parts.proofs.TurnLemmas.{all_more, all_stop, turn_end}
use Rattle.json_parts.specs.Turns.{behind}
use Rattle.case_file.specs.Views.{capture_view}
use Rattle.network_course.specs.Places.{place_at}
use Rattle.network_course.specs.Views.{place_view, place_views}
use Rattle.network_course.proofs.places.places_of.Goals as goal

pub returns-in_err-place_at : goal.returns-in_err-place_at
returns-in_err-place_at c =
    let p = err_from_is_err_and c.from_residual.result c.from_residual.ensures.1 in
    rw (p.1, p.2) (λ other. all_stop (place_at c.args.network.now) capture_view (place_views c.loop-i.found.items) c.loop-i.i c.args.captures.now _ _ _ (omega arith) (c.in_err-place_at.ensures other) c.loop-i.invariant)

pub loop-i-preserved : goal.loop-i-preserved
loop-i-preserved c =
    rw (c.in_ok-push.ensures.items, map_push place_view c.loop-i.found.items c.in_ok-place_at.field-0)
    (all_more (place_at c.args.network.now) capture_view (place_views c.loop-i.found.items) c.loop-i.i c.args.captures.now _ _ (place_view c.in_ok-place_at.field-0) (omega arith) c.in_ok-place_at.ensures c.loop-i.invariant)

pub returns : goal.returns
returns c = turn_end (behind (place_at c.args.network.now)) capture_view (place_views c.loop-i.found.items) c.loop-i.i c.args.captures.now _ (omega arith) c.loop-i.invariant
