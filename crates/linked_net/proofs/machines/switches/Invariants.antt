use Rattle.std.proofs.Common.{◌≡◌, ◌++◌, map}
use Rattle.p4_tree.specs.View.{program_of}
use Rattle.linked_net.specs.Switches.{switches_before, AreStatesOf}
use Rattle.path_runner.specs.Switches.{switch_of}
use Rattle.linked_net.proofs.machines.switches.Given as goal

-- the switches that are made, and those that are to be made
abbrev pub invariant-loop-program : goal.invariant-loop-program
invariant-loop-program g l = record {
  states : AreStatesOf (map program_of l.program-iterator.a.rest.items) l.program-iterator.b.rest.items;
  stands : map (switch_of g.B.Unit.Pass.program g.B.Unit.Pass.tables g.B.Unit.Pass.cells) l.switches.items ++ switches_before (map program_of l.program-iterator.a.rest.items) l.program-iterator.b.rest.items
      ≡ switches_before (map program_of l.fn.programs.items) l.fn.tables.items;
}
