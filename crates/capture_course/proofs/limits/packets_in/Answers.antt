use Rattle.std.proofs.Common.{List, ◌+◌, min, length, sym, ap, ◌∙◌, arith}
use Rattle.std.proofs.lemmas.List.{length-map}
use Rattle.std.proofs.Math.Nat.{min-le_right}
use Rattle.std.specs.Global.{Vec}
use Rattle.pcap_io.specs.Record.{Record, record_of}
use Rattle.pcap_io.specs.declared.captured.Captured.{Captured}
use Rattle.capture_course.specs.Files.{bytes_of}
use Rattle.capture_course.specs.Views.{list_of}
use Rattle.capture_course.proofs.Sums.{sum_inner}
use Rattle.capture_course.proofs.Counts.{count_more, count_end}
use Rattle.capture_course.proofs.limits.packets_in.Goals as goal

pub loop-list-preserved : goal.loop-list-preserved
loop-list-preserved c =
    let is = ap (λ (x : Vec Captured). (λ (r : List Record). length r) (list_of x)) c.list-item.is in
    record {
      whole = count_more 18446744073709551615 (λ (r : List Record). length r) list_of c.args.captures.now c.loop-list.list-index c.loop-list.count _ c.loop-list.invariant.whole c.list-item.result _ (omega arith)
          (c.saturating_add-count.ensures ∙ ap (λ n. min (c.loop-list.count + n) 18446744073709551615) c.len.ensures ∙ ap (λ n. min (c.loop-list.count + n) 18446744073709551615) (c.list-item.result.ok.0 ∙ sym (length-map c.list-item.result.items record_of) ∙ is));
      low = rw c.saturating_add-count.ensures (min-le_right _ _);
    }

pub returns : goal.returns
returns c = count_end 18446744073709551615 (λ (r : List Record). length r) list_of c.args.captures.now c.loop-list.list-index c.loop-list.count _ c.loop-list.invariant.whole (omega arith) c.loop-list.invariant.low
