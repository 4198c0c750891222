use Rattle.std.proofs.Common.{List, ◌+◌, min, length, sym, ap, ◌∙◌, arith}
use Rattle.std.proofs.lemmas.List.{length-map}
use Rattle.std.proofs.Math.Nat.{min-le_right}
use Rattle.std.specs.Global.{Vec}
use Rattle.pcap_io.specs.Record.{Record, record_of}
use Rattle.pcap_io.specs.declared.captured.Captured.{Captured}
use Rattle.capture_course.specs.Files.{bytes_of}
use Rattle.capture_course.specs.Views.{list_of}
use Rattle.capture_course.proofs.Sums.{sum_inner}
use Rattle.capture_course.proofs.Counts.{count_more, count_end}
use Rattle.capture_course.proofs.limits.bytes_of.Goals as goal

pub loop-captured-preserved : goal.loop-captured-preserved
loop-captured-preserved c =
    let is = ap (λ (x : Captured). (λ (r : Record). length r.bytes) (record_of x)) c.captured-item.is in
    record {
      whole = count_more 18446744073709551615 (λ (r : Record). length r.bytes) record_of c.args.list.now c.loop-captured.captured-index c.loop-captured.count _ c.loop-captured.invariant.whole c.captured-item.result _ (omega arith)
          (c.saturating_add-count.ensures ∙ ap (λ n. min (c.loop-captured.count + n) 18446744073709551615) c.len.ensures ∙ ap (λ n. min (c.loop-captured.count + n) 18446744073709551615) (c.captured-item.result.bytes.ok.0 ∙ is));
      low = rw c.saturating_add-count.ensures (min-le_right _ _);
    }

pub returns : goal.returns
returns c = count_end 18446744073709551615 (λ (r : Record). length r.bytes) record_of c.args.list.now c.loop-captured.captured-index c.loop-captured.count _ c.loop-captured.invariant.whole (omega arith) c.loop-captured.invariant.low
