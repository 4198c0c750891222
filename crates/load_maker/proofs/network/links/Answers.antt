use Rattle.std.proofs.Common.{◌++◌, ◌∙◌, List, map, ap, sym}
use Rattle.serde_json.specs.Data.{Data}
use Rattle.serde_json.specs.View.{view}
use Rattle.load_maker.specs.Numbers.{numbers}
use Rattle.load_maker.specs.Values.{link}
use Rattle.load_maker.proofs.MoreNumbers.{flat_map_more}
use Rattle.load_maker.proofs.network.links.Goals as goal

pub loop-leaf-init : goal.loop-leaf-init
unfolding numbers
loop-leaf-init c = ap (map view) c.new-links.ensures.items

pub loop-leaf-preserved : goal.loop-leaf-preserved
loop-leaf-preserved c =
    let n = c.loop-leaf.leaf in
    c.in_ok-put_links.ensures ∙ ap (λ (ds : List Data). ds ++ map (link n) (numbers 2)) c.loop-leaf.invariant
    ∙ sym (flat_map_more (λ i. map (link i) (numbers 2)) n)
