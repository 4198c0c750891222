use Rattle.std.proofs.Common.{◌≡◌, drop}
use Rattle.table_entries.specs.Signs.{packed_behind, packed}
use Rattle.table_entries.proofs.signs.packed.Given as goal

abbrev pub invariant-loop-k : goal.invariant-loop-k
invariant-loop-k l = packed_behind (drop l.k-index l.kinds) l.left l.code ≡ packed l.kinds l.sign
