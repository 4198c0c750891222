use Rattle.std.proofs.Common.{◌+◌, ◌*◌, ◌∙◌, [], map, ap}
use Rattle.serde_json.specs.View.{view}
use Rattle.load_maker.specs.Numbers.{numbers}
use Rattle.load_maker.specs.Fabric.{host_at, host_route}
use Rattle.load_maker.specs.Values.{route_entry}
use Rattle.load_maker.proofs.MoreValues.{value_more}
use Rattle.load_maker.proofs.entries.own_entries.Goals as goal

pub loop-place-init : goal.loop-place-init
unfolding numbers
loop-place-init c = ap (map view) c.new-entries.ensures.items

pub loop-place-preserved : goal.loop-place-preserved
loop-place-preserved c =
    let is = c.in_ok-entry.ensures ∙ ap route_entry (c.host_route-route.ensures ∙ ap host_route c.host_at.ensures) in
    value_more (λ m. route_entry (host_route (host_at (4 * c.args.leaf + m)))) c.loop-place.place [] c.loop-place.entries.items _ _
    c.in_ok-push.ensures.items is c.loop-place.invariant
