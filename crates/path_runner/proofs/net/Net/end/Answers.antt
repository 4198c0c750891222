use Rattle.std.proofs.Common.{◌≡◌, ◌≤◌, refl, ap, ◌∙◌, arith}
use Rattle.network_run.specs.NetworkRun.{Limits}
use Rattle.path_runner.specs.Views.{state_of}
use Rattle.path_runner.proofs.Running.{same_then, end_more, over_ends}
use Rattle.path_runner.proofs.net.Net.end.Goals as goal

pub loop-preserved : goal.loop-preserved
loop-preserved g c =
    let s = state_of c.args.self.now in
    let t = state_of c.loop.self in
    let u = state_of c.enter.new.self in
    let v = state_of c.leave-in-loop.new.self in
    record {
      same = same_then s t v c.loop.invariant.same (same_then t u v c.enter.ensures.same c.leave-in-loop.ensures.same);
      tables = c.leave-in-loop.ensures.tables ∙ (c.enter.ensures.tables ∙ c.loop.invariant.tables);
      runs = end_more s t u v c.args.packet c.loop.counter c.loop.invariant.same c.loop.invariant.runs c.enter.ensures.same c.in_ok-enter.ensures.enter c.in_ok-leave-2.ensures.leave;
    }

-- a packet that is at its end stays there
pub returns-then-is_over-clause-end : goal.returns-then-is_over-clause-end
returns-then-is_over-clause-end g c =
    let hops = c.args.self.now.limits.hops in
    let more = c.loop-test.true in
    let same : c.leave.new.self.limits.hops ≡ hops = ap (λ (l : Limits). l.hops) c.leave.ensures.same.limits in
    let most : c.loop.counter ≤ hops = omega (arith, more, same) in
    over_ends (state_of c.args.self.now) (state_of c.loop.self) c.args.packet c.loop.counter hops most c.loop.invariant.same c.loop.invariant.runs (c.if-is_over.ensures.over refl)
