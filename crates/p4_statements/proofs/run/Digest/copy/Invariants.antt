use Rattle.std.proofs.Common.{◌≡◌, take, length}
use Rattle.p4_statements.proofs.run.Digest.copy.Given as goal

abbrev pub invariant-loop-value : goal.invariant-loop-value
invariant-loop-value l = record {
  count : length l.values.items ≡ l.value-index;
  values : l.values.items ≡ take l.value-index l.self.values.items;
}
