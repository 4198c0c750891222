use Rattle.std.proofs.Common.{List, ◌-◌, length, map, sym, ap, subst, arith}
use Rattle.std.proofs.lemmas.List.{map_push}
use Rattle.pcap_io.specs.Holds.{Holds}
use Rattle.job_course.specs.Steps.{Judged}
use Rattle.job_course.proofs.Courses.{follows_exit}
use Rattle.capture_course.specs.Files.{IsNoCapture}
use Rattle.capture_course.specs.Views.{list_of, lists_of, name_of}
use Rattle.capture_course.proofs.Turns.{stop_at_file, stop_at_contents, go_on, stop_at_end}
use Rattle.capture_course.proofs.files.load_all.Goals as goal

pub returns-in_err-bytes : goal.returns-in_err-bytes
returns-in_err-bytes g c = record {
  follows = follows_exit _ c.from_residual.ensures (c.loop-capture.invariant _ _
      (stop_at_file c.args.captures.now c.loop-capture.capture-index c.loop-capture.left (lists_of c.loop-capture.found.items) _ (omega arith) _ _ _ c.in_err-bytes.ensures.follows));
}

pub returns-in_err-records : goal.returns-in_err-records
returns-in_err-records g c = record {
  follows = follows_exit _ c.from_residual-in_err-records.ensures (c.loop-capture.invariant _ _
      (stop_at_contents c.args.captures.now c.loop-capture.capture-index c.loop-capture.left (lists_of c.loop-capture.found.items) _ (omega arith) _ _ c.in_ok-bytes.bytes c.in_ok-bytes.ensures.follows _ c.deref.ensures.value _ c.in_err-records.ensures.judged));
}

pub loop-capture-preserved : goal.loop-capture-preserved
loop-capture-preserved g c =
    rw (c.in_ok-push.ensures.items, map_push list_of c.loop-capture.found.items c.in_ok-records.records)
    (λ u r next. c.loop-capture.invariant u r
    (go_on c.args.captures.now c.loop-capture.capture-index c.loop-capture.left (lists_of c.loop-capture.found.items) _ (omega arith) _ _ c.in_ok-bytes.bytes c.in_ok-bytes.ensures.follows _ c.deref.ensures.value c.in_ok-records.records c.in_ok-records.ensures.judged u r (rw (c.len.ensures, c.in_ok-bytes.bytes.ok.0) at next)))

pub returns : goal.returns
returns g c = record { follows = c.loop-capture.invariant _ _ (stop_at_end c.args.captures.now c.loop-capture.capture-index c.loop-capture.left c.loop-capture.found _ (omega arith)) }
