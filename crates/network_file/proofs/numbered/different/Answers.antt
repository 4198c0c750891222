use Rattle.std.proofs.Common.{arith}
use Rattle.json_parts.proofs.TurnLemmas.{turn_more, turn_stop, turn_end}
use Rattle.json_parts.specs.Views.{owned}
use Rattle.network_file.specs.Network.{with_name}
use Rattle.network_file.proofs.NameSteps.{with_new_name, with_old_name}
use Rattle.network_file.proofs.numbered.different.Goals as goal

pub returns-then-not-added : goal.returns-then-not-added
returns-then-not-added c = λ other. rw c.in_ok-path.ensures (turn_stop with_name (λ s. s.now) (owned c.loop-i.table.keys) c.loop-i.i c.args.names.now _ _ _ (omega arith)
    (with_old_name c.loop-i.table.keys c.in_ok-from_str.field-0 c.in_ok-added.added c.loop-i.i _ c.in_ok-from_str.ensures.ok c.in_ok-added.ensures.added c.if-not-added.true) c.loop-i.invariant)

pub loop-i-preserved : goal.loop-i-preserved
loop-i-preserved c = turn_more with_name (λ s. s.now) (owned c.loop-i.table.keys) c.loop-i.i c.args.names.now _ _ _ (omega arith)
    (with_new_name c.loop-i.table.keys c.in_ok-from_str.field-0 c.in_ok-added.added c.loop-i.i _ c.in_ok-from_str.ensures.ok c.in_ok-added.ensures.added c.insert_full.new.self.keys c.in_ok-added.ensures.keys c.if-not-added.false) c.loop-i.invariant

pub returns : goal.returns
returns c = turn_end with_name (λ s. s.now) (owned c.loop-i.table.keys) c.loop-i.i c.args.names.now _ (omega arith) c.loop-i.invariant
