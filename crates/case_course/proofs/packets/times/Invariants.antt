use Rattle.std.proofs.Common.{◌≡◌, map, take}
use Rattle.capture_course.specs.Views.{lists_of}
use Rattle.run_captures.specs.Views.{time_view}
use Rattle.case_course.specs.Packets.{times_of}
use Rattle.case_course.proofs.packets.times.Given as goal

abbrev pub invariant-loop-captured : goal.invariant-loop-captured
invariant-loop-captured l = map time_view l.times.items ≡ times_of (lists_of (take l.captured-index l.captures))
