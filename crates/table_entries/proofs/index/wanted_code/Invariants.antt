use Rattle.std.proofs.Common.{◌≡◌, drop}
use Rattle.table_entries.specs.Signs.{wanted, packed_behind, packed}
use Rattle.table_entries.proofs.index.wanted_code.Given as goal

abbrev pub invariant-loop-i : goal.invariant-loop-i
invariant-loop-i l = packed_behind (drop l.i l.kinds) (wanted (drop l.i l.kinds) l.length (drop l.i l.keys)) l.code ≡ packed l.kinds (wanted l.kinds l.length l.keys)
