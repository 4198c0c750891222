use Rattle.std.proofs.Common.{◌≡◌, ◌+◌, ◌++◌, length, map, drop, All}
use Rattle.job_course.specs.Output.{files_of}
use Rattle.p4_tree.specs.View.{program_of}
use Rattle.p4_printer.specs.CanSpell.{CanSpell}
use Rattle.run_texts.specs.Programs.{programs_files}
use Rattle.run_texts.proofs.programs.put_own_programs.Given as goal

-- what was written, and the files of the programs that are left
abbrev pub invariant-loop-program : goal.invariant-loop-program
invariant-loop-program l = record {
  left : l.switch + length l.program-iterator.rest.items ≡ length l.network.names;
  spelled : All (λ t. CanSpell (program_of t)) l.program-iterator.rest.items;
  written : files_of l.files.items ++ programs_files l.out (map program_of l.program-iterator.rest.items) (drop l.switch l.network.names)
      ≡ files_of l.initial.files.items ++ programs_files l.out (map program_of l.fn.programs.items) l.network.names;
}
