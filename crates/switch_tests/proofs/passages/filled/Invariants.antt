-- The tables take what they took.
use Rattle.std.proofs.Common.{◌≡◌}
use Rattle.p4_tables.specs.Programs.{shapes}
use Rattle.switch_tests.proofs.passages.filled.Given as goal

abbrev pub invariant-loop-item : goal.invariant-loop-item
invariant-loop-item g l = shapes l.state ≡ shapes l.initial.state
