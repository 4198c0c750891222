use Rattle.std.proofs.Common.{◌≡◌, ◌++◌, map}
use Rattle.serde_json.specs.View.{view}
use Rattle.serde_json.specs.Data.{string}
use Rattle.load_maker.specs.Numbers.{numbers}
use Rattle.load_maker.specs.Fabric.{leaf_name, spine_name}
use Rattle.load_maker.proofs.network.switches.Given as goal

abbrev pub invariant-loop-leaf : goal.invariant-loop-leaf
invariant-loop-leaf l = map view l.names.items ≡ map (λ i. string (leaf_name i)) (numbers l.leaf)

abbrev pub invariant-loop-spine : goal.invariant-loop-spine
invariant-loop-spine l = map view l.names.items ≡ map view l.initial.names.items ++ map (λ j. string (spine_name j)) (numbers l.spine)
