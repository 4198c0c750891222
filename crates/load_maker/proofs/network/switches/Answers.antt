use Rattle.std.proofs.Common.{[], map, ap, sym}
use Rattle.std.proofs.lemmas.List.{append-nil}
use Rattle.serde_json.specs.Data.{string}
use Rattle.serde_json.specs.View.{view}
use Rattle.load_maker.specs.Numbers.{numbers}
use Rattle.load_maker.specs.Fabric.{leaf_name, spine_name}
use Rattle.load_maker.proofs.MoreValues.{value_more}
use Rattle.load_maker.proofs.network.switches.Goals as goal

pub loop-leaf-init : goal.loop-leaf-init
unfolding numbers
loop-leaf-init c = ap (map view) c.new-names.ensures.items

pub loop-leaf-preserved : goal.loop-leaf-preserved
loop-leaf-preserved c =
    value_more (λ i. string (leaf_name i)) c.loop-leaf.leaf [] c.loop-leaf.names.items _ _
    c.in_ok-push.ensures.items c.in_ok-leaf_value.ensures c.loop-leaf.invariant

pub loop-spine-init : goal.loop-spine-init
unfolding numbers
loop-spine-init c = sym (append-nil (map view c.loop-leaf.names.items))

pub loop-spine-preserved : goal.loop-spine-preserved
loop-spine-preserved c =
    value_more (λ j. string (spine_name j)) c.loop-spine.spine (map view c.loop-leaf.names.items) c.loop-spine.names.items _ _
    c.in_ok-push-2.ensures.items c.in_ok-spine_value.ensures c.loop-spine.invariant
