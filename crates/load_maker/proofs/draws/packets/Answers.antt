use Rattle.std.proofs.Common.{◌∙◌, refl}
use Rattle.load_maker.specs.Numbers.{numbers}
use Rattle.load_maker.specs.Draws.{state_after}
use Rattle.load_maker.proofs.MorePackets.{state_more, packet_more}
use Rattle.load_maker.proofs.draws.packets.Goals as goal

pub loop-i-init : goal.loop-i-init
unfolding numbers state_after
loop-i-init c = record { state = refl; drawn = c.new-packets.ensures.items }

pub loop-i-preserved : goal.loop-i-preserved
loop-i-preserved c =
    let before = c.loop-i.invariant in
    let i = c.loop-i.i in
    let s = c.loop-i.draws.state in
    record {
      state = c.packet.ensures.state ∙ state_more c.args.number i s before.state;
      drawn = c.in_ok-push.ensures.items ∙ packet_more c.args.number i s _ _ before.state before.drawn c.packet.ensures.drawn;
    }
