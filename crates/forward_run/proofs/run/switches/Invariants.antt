use Rattle.std.proofs.Common.{◌≡◌, ◌++◌, map, All}
use Rattle.p4_tree.specs.View.{program_of}
use Rattle.p4_tables.specs.Programs.{IsStateOf}
use Rattle.path_runner.specs.Switches.{switch_of}
use Rattle.forward_run.specs.Switches.{switch_before}
use Rattle.forward_run.proofs.run.switches.Given as goal

-- the switches that are made, which all run the program, and those that are to be made
abbrev pub invariant-loop-held : goal.invariant-loop-held
invariant-loop-held g l = record {
  fits : All (IsStateOf (program_of l.program)) l.held-iterator.rest.items;
  runs : All (λ u. g.B.Unit.Pass.program u ≡ program_of l.program) l.switches.items;
  stands : map (switch_of g.B.Unit.Pass.program g.B.Unit.Pass.tables g.B.Unit.Pass.cells) l.switches.items ++ map (switch_before (program_of l.program)) l.held-iterator.rest.items
      ≡ map (switch_before (program_of l.program)) l.fn.tables.items;
}
