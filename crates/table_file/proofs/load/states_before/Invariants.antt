use Rattle.std.proofs.Common.{◌≡◌, take}
use Rattle.p4_tree.specs.View.{program_of}
use Rattle.table_file.specs.Entries.{states_before}
use Rattle.table_file.proofs.load.states_before.Given as goal

abbrev pub invariant-loop-switch : goal.invariant-loop-switch
invariant-loop-switch l = l.states.items ≡ states_before (program_of l.program) (take l._switch l.network.names)
