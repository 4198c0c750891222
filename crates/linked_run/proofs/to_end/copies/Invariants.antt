use Rattle.std.proofs.Common.{◌≡◌, map, take}
use Rattle.p4_tree.specs.View.{program_of}
use Rattle.linked_run.proofs.to_end.copies.Given as goal

-- so many programs were copied
abbrev pub invariant-loop-program : goal.invariant-loop-program
invariant-loop-program l = record { same : map program_of l.copies.items ≡ map program_of (take l.program-index l.programs) }
