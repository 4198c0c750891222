use Rattle.std.proofs.Common.{◌∙◌, [], map, ap, ℕ}
use Rattle.serde_json.specs.Data.{Data}
use Rattle.serde_json.specs.View.{view}
use Rattle.load_maker.specs.Numbers.{numbers}
use Rattle.load_maker.specs.Fabric.{leaf_route, port_to_leaf}
use Rattle.load_maker.specs.Values.{route_entry}
use Rattle.load_maker.proofs.MoreValues.{value_more}
use Rattle.load_maker.proofs.entries.spine_entries.Goals as goal

-- the entry for a leaf
abbrev entry_for : ℕ → Data
entry_for m = route_entry (leaf_route m (port_to_leaf m))

pub loop-leaf-init : goal.loop-leaf-init
unfolding numbers
loop-leaf-init c = ap (map view) c.new-entries.ensures.items

pub loop-leaf-preserved : goal.loop-leaf-preserved
loop-leaf-preserved c =
    let n = c.loop-leaf.leaf in
    let is = c.in_ok-entry.ensures ∙ ap route_entry (c.leaf_route-route.ensures ∙ ap (leaf_route n) c.port_to_leaf.ensures) in
    value_more entry_for n [] c.loop-leaf.entries.items _ _ c.in_ok-push.ensures.items is c.loop-leaf.invariant
