use Rattle.std.proofs.Common.{◌≡◌, ◌-◌, ◌+◌, suc, length, arith, ap, ◌∙◌}
use Rattle.slot_terms.specs.States.{state_of}
use Rattle.slot_parsers.specs.Code.{turn_of}
use Rattle.slot_parsers.proofs.RunLemmas.{one_more, ends_now}
use Rattle.slot_parsers.proofs.running.run_states.Goals as goal

pub loop-i-preserved : goal.loop-i-preserved
loop-i-preserved c =
    let fewer : length c.args.states.now + 1 - c.loop-i.i ≡ suc (length c.args.states.now + 1 - (c.loop-i.i + 1)) = omega arith in
    let led = ap (λ t. turn_of t (state_of c.one_turn.new.s) c.args.frame.now) c.in-Next.is in
    record {
      rest = one_more _ _ _ _ _ _ _ _ _ _ _ fewer c.one_turn.ensures.turned led ∙ c.loop-i.invariant.rest;
      within = rw c.in-Next.is at c.one_turn.ensures.within;
    }

pub returns-in-End-clause-ends : goal.returns-in-End-clause-ends
returns-in-End-clause-ends c =
    let fewer : length c.args.states.now + 1 - c.loop-i.i ≡ suc (length c.args.states.now + 1 - (c.loop-i.i + 1)) = omega arith in
    let end = ap (λ t. turn_of t (state_of c.one_turn.new.s) c.args.frame.now) c.in-End.is in
    ends_now _ _ _ _ _ _ _ _ _ _ fewer c.one_turn.ensures.turned end ∙ c.loop-i.invariant.rest
