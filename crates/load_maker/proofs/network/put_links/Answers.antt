use Rattle.std.proofs.Common.{map, sym}
use Rattle.std.proofs.lemmas.List.{append-nil}
use Rattle.serde_json.specs.View.{view}
use Rattle.load_maker.specs.Numbers.{numbers}
use Rattle.load_maker.specs.Values.{link}
use Rattle.load_maker.proofs.MoreValues.{value_more}
use Rattle.load_maker.proofs.network.put_links.Goals as goal

pub loop-spine-init : goal.loop-spine-init
unfolding numbers
loop-spine-init c = sym (append-nil (map view c.args.links.now.items))

pub loop-spine-preserved : goal.loop-spine-preserved
loop-spine-preserved c =
    value_more (link c.args.leaf) c.loop-spine.spine (map view c.args.links.now.items) c.loop-spine.links.items _ _
    c.in_ok-push.ensures.items c.in_ok-link.ensures c.loop-spine.invariant
