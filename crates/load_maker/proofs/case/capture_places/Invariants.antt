use Rattle.std.proofs.Common.{◌≡◌, map}
use Rattle.serde_json.specs.View.{view}
use Rattle.load_maker.specs.Numbers.{numbers}
use Rattle.load_maker.specs.Values.{capture_place}
use Rattle.load_maker.proofs.case.capture_places.Given as goal

abbrev pub invariant-loop-number : goal.invariant-loop-number
invariant-loop-number l = map view l.places.items ≡ map (capture_place l.out) (numbers l.number)
