use Rattle.std.proofs.Common.{arith}
use Rattle.std.proofs.lemmas.List.{map_push}
use Rattle.pcap_io.specs.Record.{record_of}
use Rattle.pcap_io.proofs.RunLemmas.{Run-push}
use Rattle.pcap_io.proofs.reading.records.Goals as goal

pub loop-at-preserved : goal.loop-at-preserved
loop-at-preserved c =
    let stands = c.in_ok-captured.ensures.ok in
    let whole = stands.whole in
    let len = c.len.ensures in
    let pushed = map_push record_of c.loop-at.list.items c.in_ok-captured.captured in
    record {
      inside = omega arith;
      run = rw (c.in_ok-push.ensures.items, pushed) (Run-push _ _ _ _ _ _ _ c.loop-at.invariant.run stands (omega arith));
    }
