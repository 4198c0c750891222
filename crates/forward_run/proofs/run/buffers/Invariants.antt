use Rattle.std.proofs.Common.{◌≡◌, length, All}
use Rattle.p4_tree.specs.View.{program_of}
use Rattle.p4_machine.specs.Buffers.{IsMadeFor}
use Rattle.forward_run.proofs.run.buffers.Given as goal

abbrev pub invariant-loop : goal.invariant-loop
invariant-loop l = record {
  count : length l.bufs.items ≡ l.counter;
  made : All (λ b. IsMadeFor (program_of l.program) b.needs) l.bufs.items;
}
