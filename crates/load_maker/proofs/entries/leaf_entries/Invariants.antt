use Rattle.std.proofs.Common.{◌≡◌, ◌++◌, ◌==◌, ◌%◌, not, map}
use Rattle.std.specs.List.{filter}
use Rattle.serde_json.specs.View.{view}
use Rattle.load_maker.specs.Numbers.{numbers}
use Rattle.load_maker.specs.Fabric.{leaf_route, port_to_spine}
use Rattle.load_maker.specs.Values.{route_entry}
use Rattle.load_maker.proofs.entries.leaf_entries.Given as goal

abbrev pub invariant-loop-other : goal.invariant-loop-other
invariant-loop-other l = map view l.entries.items ≡ map view l.initial.entries.items
    ++ map (λ m. route_entry (leaf_route m (port_to_spine (m % 2)))) (filter (λ m. not (m == l.leaf)) (numbers l.other))
