use Rattle.std.proofs.Common.{take}
use Rattle.job_course.specs.Delivery.{WritesAll}
use Rattle.job_course.specs.Output.{files_of}
use Rattle.job_course.proofs.delivery.write_files.Given as goal

abbrev pub invariant-loop-at : goal.invariant-loop-at
invariant-loop-at g l = WritesAll (take l.at (files_of l.files)) (g.S.Store.state l.initial.store) (g.S.Store.state l.store)
