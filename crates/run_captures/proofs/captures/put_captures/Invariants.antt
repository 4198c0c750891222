use Rattle.std.proofs.Common.{◌≡◌, ◌++◌, map, drop}
use Rattle.job_course.specs.Output.{files_of}
use Rattle.run_captures.specs.Captures.{switches_files}
use Rattle.path_runner.specs.Packets.{sent_of}
use Rattle.run_captures.specs.Views.{time_view, front_view}
use Rattle.run_captures.proofs.captures.put_captures.Given as goal

-- what was written, and the files of the switches that are left
abbrev pub invariant-loop-switch : goal.invariant-loop-switch
invariant-loop-switch l =
    files_of l.files.items ++ switches_files (front_view l.front) (map time_view l.times) (map sent_of l.sent) l.switch (drop l.switch l.network.names)
    ≡ files_of l.initial.files.items ++ switches_files (front_view l.front) (map time_view l.times) (map sent_of l.sent) 0 l.network.names
