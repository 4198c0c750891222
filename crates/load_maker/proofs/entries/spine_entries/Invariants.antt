use Rattle.std.proofs.Common.{◌≡◌, map}
use Rattle.serde_json.specs.View.{view}
use Rattle.load_maker.specs.Numbers.{numbers}
use Rattle.load_maker.specs.Fabric.{leaf_route, port_to_leaf}
use Rattle.load_maker.specs.Values.{route_entry}
use Rattle.load_maker.proofs.entries.spine_entries.Given as goal

abbrev pub invariant-loop-leaf : goal.invariant-loop-leaf
invariant-loop-leaf l = map view l.entries.items ≡ map (λ m. route_entry (leaf_route m (port_to_leaf m))) (numbers l.leaf)
