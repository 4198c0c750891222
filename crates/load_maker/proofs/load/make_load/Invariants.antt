use Rattle.std.proofs.Common.{◌≡◌, ◌++◌, map}
use Rattle.job_course.specs.Output.{files_of}
use Rattle.load_maker.specs.Numbers.{numbers}
use Rattle.load_maker.specs.Draws.{packets}
use Rattle.load_maker.specs.Captures.{capture, capture_name}
use Rattle.load_maker.specs.Made.{case_files}
use Rattle.load_maker.proofs.load.make_load.Given as goal

abbrev pub invariant-loop-host : goal.invariant-loop-host
invariant-loop-host l = files_of l.files.items ≡ case_files l.out ++ map (λ k. (capture_name l.out k, capture k (packets l.n))) (numbers l.host)
