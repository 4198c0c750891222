use Rattle.std.proofs.Common.{arith}
use Rattle.std.proofs.lemmas.List.{map_push}
use Rattle.std.proofs.lemmas.Result.{err_from_is_err_and}
use Rattle.json_parts.proofs.TurnLemmas.{all_more, all_stop, turn_end}
use Rattle.json_parts.specs.Turns.{behind}
use Rattle.json_parts.specs.Views.{owned}
use Rattle.network_file.specs.Network.{numbered}
use Rattle.network_file.specs.Views.{link_view, numbered_view, numbered_views}
use Rattle.network_file.proofs.numbered.all_numbered.Goals as goal

pub returns-in_err-numbered : goal.returns-in_err-numbered
returns-in_err-numbered c =
    let p = err_from_is_err_and c.from_residual.result c.from_residual.ensures.1 in
    rw (p.1, p.2) (λ other. all_stop (numbered (owned c.args.table.now.keys)) link_view (numbered_views c.loop-i.all.items) c.loop-i.i c.args.links.now _ _ _ (omega arith) (c.in_err-numbered.ensures other) c.loop-i.invariant)

pub loop-i-preserved : goal.loop-i-preserved
loop-i-preserved c =
    rw (c.in_ok-push.ensures.items, map_push numbered_view c.loop-i.all.items c.in_ok-numbered.field-0)
    (all_more (numbered (owned c.args.table.now.keys)) link_view (numbered_views c.loop-i.all.items) c.loop-i.i c.args.links.now _ _ (numbered_view c.in_ok-numbered.field-0) (omega arith) c.in_ok-numbered.ensures c.loop-i.invariant)

pub returns : goal.returns
returns c = turn_end (behind (numbered (owned c.args.table.now.keys))) link_view (numbered_views c.loop-i.all.items) c.loop-i.i c.args.links.now _ (omega arith) c.loop-i.invariant
