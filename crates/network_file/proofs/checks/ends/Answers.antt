use Rattle.std.proofs.Common.{sym, ◌∙◌, arith}
use Rattle.std.specs.Map.{keys_of}
use Rattle.json_parts.proofs.TurnLemmas.{turn_end}
use Rattle.network_file.specs.Network.{with_ports}
use Rattle.network_file.specs.Views.{numbered_view}
use Rattle.network_file.proofs.EndLemmas.{ports_stop, ports_more, held_more, held_all}
use Rattle.network_file.proofs.NameSteps.{not_true, not_false}
use Rattle.network_file.proofs.checks.ends.Goals as goal

pub returns-then-not-branch : goal.returns-then-not-branch
returns-then-not-branch c = record {
  free = λ other. rw c.in_ok-path.ensures (ports_stop numbered_view c.args.links.now c.loop-i.i _ (omega arith) c.loop-i.ends.entries _ c.loop-i.invariant.so_far
      (not_false _ (sym c.in_ok-put.ensures.answer ∙ c.if-not-branch.true)));
  ends = tt;
}

pub loop-i-preserved : goal.loop-i-preserved
loop-i-preserved c =
    let put = c.in_ok-put.ensures.put c.if-not-branch.false in
    record {
      so_far = ports_more numbered_view c.args.links.now c.loop-i.i _ (omega arith) c.loop-i.ends.entries _ c.loop-i.invariant.so_far c.put.new.ends.entries
          (not_true _ (sym c.in_ok-put.ensures.answer ∙ c.if-not-branch.false)) put;
      held = held_more numbered_view c.args.links.now c.loop-i.i _ c.loop-i.ends.entries c.put.new.ends.entries (omega arith) c.loop-i.invariant.held put;
    }

pub returns : goal.returns
returns c = record {
  free = turn_end with_ports numbered_view (keys_of c.loop-i.ends.entries) c.loop-i.i c.args.links.now _ (omega arith) c.loop-i.invariant.so_far;
  ends = held_all numbered_view c.args.links.now c.loop-i.i c.loop-i.ends.entries (omega arith) c.loop-i.invariant.held;
}
