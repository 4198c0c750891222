use Rattle.std.proofs.Common.{◌≡◌, ◌+◌, drop}
use Rattle.p4_tables.specs.State.{entries_in}
use Rattle.p4_tables.proofs.state.count_in.Given as goal

abbrev pub invariant-loop-held : goal.invariant-loop-held
invariant-loop-held l = l.count + entries_in (drop l.held-index l.tables) ≡ entries_in l.tables
