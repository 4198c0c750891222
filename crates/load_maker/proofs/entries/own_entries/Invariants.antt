use Rattle.std.proofs.Common.{◌≡◌, ◌*◌, ◌+◌, map}
use Rattle.serde_json.specs.View.{view}
use Rattle.load_maker.specs.Numbers.{numbers}
use Rattle.load_maker.specs.Fabric.{host_at, host_route}
use Rattle.load_maker.specs.Values.{route_entry}
use Rattle.load_maker.proofs.entries.own_entries.Given as goal

abbrev pub invariant-loop-place : goal.invariant-loop-place
invariant-loop-place l = map view l.entries.items ≡ map (λ m. route_entry (host_route (host_at (4 * l.leaf + m)))) (numbers l.place)
