use Rattle.std.proofs.Common.{map, ap, ◌∙◌, ◌++◌}
use Rattle.run_captures.specs.Views.{time_view, lent_view}
use Rattle.run_captures.proofs.Written.{frame_more, short_at}
use Rattle.run_captures.proofs.captures.capture.Goals as goal

pub loop-x-preserved : goal.loop-x-preserved
loop-x-preserved c =
    c.in_ok-put_frame.ensures
    ∙ frame_more lent_view (map time_view c.args.times.now) c.args.frames.now c.loop-x.x-index c.x-item.result _ c.loop-x-test.true c.x-item.is c.loop-x.invariant

pub put_frame-requires : goal.put_frame-requires
put_frame-requires c = short_at lent_view c.args.frames.now c.loop-x.x-index c.x-item.result c.loop-x-test.true c.x-item.is c.requires
