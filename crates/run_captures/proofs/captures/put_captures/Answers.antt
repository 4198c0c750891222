use Rattle.std.proofs.Common.{◌++◌, ◌+◌, ◌≤◌, length, map, drop, sym, ap, ◌∙◌, subst, arith}
use Rattle.std.proofs.lemmas.List.{length-map}
use Rattle.std.proofs.lemmas.List.Elements.{All-map}
use Rattle.network_run.specs.Network.{Sent}
use Rattle.run_captures.specs.Captures.{switches_files}
use Rattle.run_captures.specs.Sorted.{AreShort, switch_of}
use Rattle.path_runner.specs.Packets.{sent_of}
use Rattle.run_captures.specs.Views.{time_view, lent_view, list_view, front_view}
use Rattle.run_captures.proofs.Sorting.{list_in}
use Rattle.run_captures.proofs.Short.{lists_short}
use Rattle.run_captures.proofs.Files.{switch_more, switch_end}
use Rattle.run_captures.proofs.captures.put_captures.Goals as goal

pub put_switch-requires : goal.put_switch-requires
put_switch-requires c =
    let xs = map sent_of c.args.sent.now in
    let i = c.loop-switch.switch in
    let lists = c.in_ok-lists.lists.items in
    let sizes = length-map lists list_view in
    let size = c.in_ok-lists.ensures.count in
    let is = list_in list_view lists i c.index.result.now (omega (arith, sizes, size)) ∙ ap list_view (sym c.index.ensures) ∙ ap (map lent_view) (sym c.deref.ensures.value) in
    subst AreShort is
    (lists_short switch_of _ xs (map list_view lists) (All-map (λ (x : Sent). length x.frame ≤ 65791) sent_of c.args.sent.now c.requires) c.in_ok-lists.ensures i)

pub loop-switch-preserved : goal.loop-switch-preserved
loop-switch-preserved c =
    let f = front_view c.args.front.now in
    let ts = map time_view c.args.times.now in
    let xs = map sent_of c.args.sent.now in
    let ns = c.args.network.now.names in
    let i = c.loop-switch.switch in
    let lists = c.in_ok-lists.lists.items in
    let sizes = length-map lists list_view in
    let size = c.in_ok-lists.ensures.count in
    let is = list_in list_view lists i c.index.result.now (omega (arith, sizes, size)) ∙ ap list_view (sym c.index.ensures) ∙ ap (map lent_view) (sym c.deref.ensures.value) in
    let theirs = sym is ∙ c.in_ok-lists.ensures.each i (omega (arith, sizes, size)) in
    ap (λ fs. fs ++ switches_files f ts xs (i + 1) (drop (i + 1) ns)) (c.in_ok-put_switch.ensures i xs theirs)
    ∙ switch_more f ts xs ns i _ _ c.loop-switch.invariant _ c.name-name.ensures

pub returns : goal.returns
returns c =
    switch_end (front_view c.args.front.now) (map time_view c.args.times.now) (map sent_of c.args.sent.now) c.args.network.now.names c.loop-switch.switch _ _ c.loop-switch.invariant (omega (arith, c.count-switch-end.ensures.count))
