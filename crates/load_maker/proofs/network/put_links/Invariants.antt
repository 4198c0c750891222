use Rattle.std.proofs.Common.{◌≡◌, ◌++◌, map}
use Rattle.serde_json.specs.View.{view}
use Rattle.load_maker.specs.Numbers.{numbers}
use Rattle.load_maker.specs.Values.{link}
use Rattle.load_maker.proofs.network.put_links.Given as goal

abbrev pub invariant-loop-spine : goal.invariant-loop-spine
invariant-loop-spine l = map view l.links.items ≡ map view l.initial.links.items ++ map (link l.leaf) (numbers l.spine)
