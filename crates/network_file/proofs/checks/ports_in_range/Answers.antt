use Rattle.std.proofs.Common.{sym, ◌∙◌, arith}
use Rattle.json_parts.proofs.TurnLemmas.{turn_end}
use Rattle.network_file.specs.Network.{low}
use Rattle.network_file.specs.Views.{numbered_view}
use Rattle.network_file.proofs.EndLemmas.{high_stop, high_more}
use Rattle.network_file.proofs.checks.ports_in_range.Goals as goal

pub returns-then-is_high : goal.returns-then-is_high
returns-then-is_high c = λ other. rw c.in_ok-path.ensures
    (high_stop numbered_view c.args.links.now c.loop-i.i _ (omega arith) _ c.loop-i.invariant (sym c.is_high.ensures ∙ c.if-is_high.true))

pub loop-i-preserved : goal.loop-i-preserved
loop-i-preserved c = high_more numbered_view c.args.links.now c.loop-i.i _ (omega arith) _ c.loop-i.invariant (sym c.is_high.ensures ∙ c.if-is_high.false)

pub returns : goal.returns
returns c = turn_end low numbered_view tt c.loop-i.i c.args.links.now _ (omega arith) c.loop-i.invariant
