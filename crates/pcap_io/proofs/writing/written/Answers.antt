use Rattle.std.proofs.Common.{◌∙◌}
use Rattle.pcap_io.proofs.WrittenLemmas.{written_more, in_range_more}
use Rattle.pcap_io.proofs.writing.written.Goals as goal

pub loop-captured-preserved : goal.loop-captured-preserved
loop-captured-preserved c =
    let inside = c.loop-captured-test.true in
    let item = c.captured-item.is in
    record {
      bytes = c.in_ok-put_captured.ensures.bytes ∙ written_more _ c.args.list.now c.loop-captured.captured-index c.captured-item.result inside item c.loop-captured.invariant.bytes;
      in_range = in_range_more c.args.list.now c.loop-captured.captured-index c.captured-item.result inside item c.loop-captured.invariant.in_range c.in_ok-put_captured.ensures.in_range;
    }
