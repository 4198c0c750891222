use Rattle.std.proofs.Common.{[], map, ap}
use Rattle.serde_json.specs.View.{view}
use Rattle.load_maker.specs.Numbers.{numbers}
use Rattle.load_maker.specs.Values.{capture_place}
use Rattle.load_maker.proofs.MoreValues.{value_more}
use Rattle.load_maker.proofs.case.capture_places.Goals as goal

pub loop-number-init : goal.loop-number-init
unfolding numbers
loop-number-init c = ap (map view) c.new-places.ensures.items

pub loop-number-preserved : goal.loop-number-preserved
loop-number-preserved c =
    value_more (capture_place c.args.out.now) c.loop-number.number [] c.loop-number.places.items _ _
    c.in_ok-push.ensures.items c.in_ok-capture_place.ensures c.loop-number.invariant
