use Rattle.std.proofs.Common.{◌≡◌, ◌≤◌, drop, length}
use Rattle.outside.specs.SureStore.{surely_held}
use Rattle.job_course.specs.Output.{files_of}
use Rattle.load_job.specs.Within.{held_by}
use Rattle.load_job.proofs.load.hold.Given as goal

abbrev pub invariant-loop-left : goal.invariant-loop-left
invariant-loop-left l = record {
  within : l.left ≤ length l.files;
  held : surely_held l.store ≡ held_by (files_of (drop l.left l.files));
}

abbrev pub decreases-loop-left : goal.decreases-loop-left
decreases-loop-left l = l.left
