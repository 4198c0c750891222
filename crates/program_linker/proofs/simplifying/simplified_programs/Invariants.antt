use Rattle.p4_tree.specs.View.{program_of}
use Rattle.simplify_programs.specs.Simplified.{IsSimplifiedProgram}
use Rattle.program_linker.proofs.Lists.{AreMade}
use Rattle.program_linker.proofs.simplifying.simplified_programs.Given as goal

abbrev pub invariant-loop-program : goal.invariant-loop-program
invariant-loop-program g l = AreMade program_of (IsSimplifiedProgram (g.R.Offers.Answers l.rules)) l.fn.programs.items l.program-iterator.rest.items l.made.items
