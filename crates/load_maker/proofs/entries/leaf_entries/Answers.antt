use Rattle.std.proofs.Common.{◌%◌, ◌∙◌, ap, map, ℕ, sym}
use Rattle.std.proofs.lemmas.List.{append-nil}
use Rattle.load_maker.specs.Numbers.{numbers}
use Rattle.std.specs.Global.{Vec}
use Rattle.serde_json.specs.View.{view}
use Rattle.serde_json.specs.Data.{Data}
use Rattle.serde_json.specs.declared.value.Value.{Value}
use Rattle.load_maker.specs.Fabric.{leaf_route, port_to_spine}
use Rattle.load_maker.specs.Values.{route_entry}
use Rattle.load_maker.proofs.MoreValues.{other_more, other_past}
use Rattle.load_maker.proofs.entries.leaf_entries.Goals as goal
use Rattle.load_maker.proofs.entries.leaf_entries.Goals.{then-other-leaf+in_ok-entry+in_ok-push, else-other-leaf}

-- the entry for another leaf
abbrev entry_for : ℕ → Data
entry_for m = route_entry (leaf_route m (port_to_spine (m % 2)))

pub loop-other-init : goal.loop-other-init
unfolding numbers
loop-other-init c = sym (append-nil (map view c.in_ok-entries.entries.items))

pub loop-other-preserved : goal.loop-other-preserved
loop-other-preserved c =
    let i = c.args.leaf in
    let n = c.loop-other.other in
    let front = map view c.in_ok-entries.entries.items in
    let old = c.loop-other.entries.items in
    let before = c.loop-other.invariant in
    elim c.if-other-leaf.branch [
      | then-other-leaf+in_ok-entry+in_ok-push w ↦
          let push = ap (λ (v : Vec Value). v.items) w.entries-is ∙ w.in_ok-push.ensures.items in
          let is = w.in_ok-entry.ensures ∙ ap route_entry (w.leaf_route-route.ensures ∙ ap (leaf_route n) w.port_to_spine.ensures) in
          other_more entry_for i n front old c.if-other-leaf.entries.items _ w.if-other-leaf.true push is before
      | else-other-leaf w ↦ ap (λ (v : Vec Value). map view v.items) w.entries-is ∙ other_past entry_for i n front old w.if-other-leaf.false before
    ]
