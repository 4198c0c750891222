use Rattle.std.proofs.Common.{map, ap, ◌∙◌, ◌++◌, arith}
use Rattle.capture_course.specs.Views.{list_of}
use Rattle.run_captures.specs.Views.{time_view}
use Rattle.pcap_io.specs.Record.{records_of}
use Rattle.case_course.specs.Packets.{time_at}
use Rattle.case_course.proofs.Lists.{times_more}
use Rattle.case_course.proofs.packets.times.Goals as goal

pub loop-captured-preserved : goal.loop-captured-preserved
loop-captured-preserved c =
    times_more list_of c.args.captures.now c.loop-captured.captured-index c.captured-item.result _ (map time_view c.loop-captured.times.items) (omega arith)
    (c.in_ok-put_times.ensures ∙ ap (λ cs. map time_view c.loop-captured.times.items ++ map time_at (records_of cs)) c.deref.ensures.value ∙ ap (λ x. map time_view c.loop-captured.times.items ++ map time_at (list_of x)) c.captured-item.is) c.loop-captured.invariant
