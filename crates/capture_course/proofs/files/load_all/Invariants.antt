use Rattle.std.proofs.Common.{[], drop, Result}
use Rattle.outside.specs.State.{StoreState}
use Rattle.std.specs.Global.{Vec}
use Rattle.pcap_io.specs.declared.captured.Captured.{Captured}
use Rattle.job_course.specs.Steps.{Follows}
use Rattle.job_course.specs.declared.status.Stop.{Stop}
use Rattle.capture_course.specs.Files.{captures_from}
use Rattle.capture_course.specs.Views.{lists_of, names_of}
use Rattle.capture_course.proofs.files.load_all.Given as goal

-- what keeps to the course from here keeps to the whole course
abbrev pub invariant-loop-capture : goal.invariant-loop-capture
invariant-loop-capture g l =
    (t : StoreState) (r : Result (Vec (Vec Captured)) Stop)
    → Follows (captures_from l.left (lists_of l.found.items) (drop l.capture-index (names_of l.captures))) (λ v. lists_of v.items) (g.S.Store.state l.store) t r
    → Follows (captures_from 67108864 [] (names_of l.captures)) (λ v. lists_of v.items) (g.S.Store.state l.initial.store) t r
