use Rattle.std.proofs.Common.{map, ap, arith}
use Rattle.pcap_io.specs.Record.{record_of}
use Rattle.run_captures.specs.Views.{time_view}
use Rattle.case_course.specs.Packets.{time_at}
use Rattle.case_course.proofs.Lists.{time_more}
use Rattle.case_course.proofs.packets.put_times.Goals as goal

pub loop-c-preserved : goal.loop-c-preserved
loop-c-preserved c =
    time_more time_view record_of (map time_view c.args.times.now.items) _ _ _ c.args.captured.now c.loop-c.c-index c.c-item.result (omega arith) c.in_ok-push.ensures.items (ap (λ x. time_at (record_of x)) c.c-item.is) c.loop-c.invariant
