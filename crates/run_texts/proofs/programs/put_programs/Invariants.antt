use Rattle.std.proofs.Common.{◌≡◌, ◌++◌, map, drop}
use Rattle.job_course.specs.Output.{files_of}
use Rattle.p4_tree.specs.View.{program_of}
use Rattle.run_texts.specs.Programs.{programs_files}
use Rattle.run_texts.proofs.programs.put_programs.Given as goal

-- what was written, and the files of the programs that are left
abbrev pub invariant-loop-switch : goal.invariant-loop-switch
invariant-loop-switch l =
    files_of l.files.items ++ programs_files l.out (drop l.switch (map program_of l.programs)) (drop l.switch l.network.names)
    ≡ files_of l.initial.files.items ++ programs_files l.out (map program_of l.programs) l.network.names
