use Rattle.std.proofs.Common.{◌≡◌, ◌-◌, ap, ◌∙◌, sym, arith}
use Rattle.outside.specs.SureStore.{surely_held}
use Rattle.outside.specs.Files.{Files, with_file}
use Rattle.job_course.specs.Output.{file_of}
use Rattle.load_job.proofs.Held.{holds_one, from_one_on}
use Rattle.load_job.proofs.load.hold.Goals as goal

pub loop-left-preserved : goal.loop-left-preserved
loop-left-preserved c =
    let files = c.args.files.now in
    let n = c.loop-left.left - 1 in
    let x = c.index-files-left.result in
    record {
      within = omega (arith, c.loop-left.invariant.within);
      held =
          holds_one (surely_held c.loop-left.store) (surely_held c.hold.new.self) _ (file_of x).0 _ (file_of x).1 c.as_str.ensures.value c.deref.ensures.value c.in_ok-hold.ensures.ok
          ∙ ap (λ (f : Files). with_file f (file_of x).0 (file_of x).1) c.loop-left.invariant.held
          ∙ sym (from_one_on files n c.loop-left.left x (omega (arith, c.loop-left-test.true)) (omega (arith, c.loop-left.invariant.within, c.loop-left-test.true)) c.index-files-left.is);
    }
