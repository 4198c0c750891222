use Rattle.std.proofs.Common.{◌≡◌, ◌-◌, ◌+◌, suc, arith, ap, ◌∙◌}
use Rattle.p4_packets.specs.Places.{turned_of}
use Rattle.p4_packets.proofs.ParseLemmas.{one_more, ends_now}
use Rattle.p4_packets.proofs.states.run_states.Goals as goal

pub loop-i-preserved : goal.loop-i-preserved
loop-i-preserved c =
    let fewer : c.args.turns - c.loop-i.i ≡ suc (c.args.turns - (c.loop-i.i + 1)) = omega arith in
    let led = ap (λ t. turned_of t c.one_turn.new.s c.args.frame.now) c.in-Next.is in
    record {
      rest = one_more _ _ _ _ _ _ _ _ _ _ fewer c.in_ok-end.ensures.turned led ∙ c.loop-i.invariant.rest;
      within = rw c.in-Next.is at c.in_ok-end.ensures.within;
    }

pub returns-in-End-clause-ends : goal.returns-in-End-clause-ends
returns-in-End-clause-ends c =
    let fewer : c.args.turns - c.loop-i.i ≡ suc (c.args.turns - (c.loop-i.i + 1)) = omega arith in
    let end = ap (λ t. turned_of t c.one_turn.new.s c.args.frame.now) c.in-End.is in
    ends_now _ _ _ _ _ _ _ _ _ fewer c.in_ok-end.ensures.turned end ∙ c.loop-i.invariant.rest
