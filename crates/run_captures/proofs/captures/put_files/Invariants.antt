use Rattle.std.proofs.Common.{◌≡◌, ◌++◌, map, drop}
use Rattle.job_course.specs.Output.{files_of}
use Rattle.run_captures.specs.Sorted.{lists_files}
use Rattle.run_captures.specs.Views.{time_view, list_view, front_view}
use Rattle.run_captures.proofs.captures.put_files.Given as goal

-- what was written, and the files of the lists that are left
abbrev pub invariant-loop-port : goal.invariant-loop-port
invariant-loop-port l =
    files_of l.files.items ++ lists_files (front_view l.front) l.name (map time_view l.times) l.port (drop l.port (map list_view l.lists)) ≡ files_of l.initial.files.items ++ lists_files (front_view l.front) l.name (map time_view l.times) 0 (map list_view l.lists)
