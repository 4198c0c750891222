use Rattle.std.proofs.Common.{◌≡◌, ◌++◌, drop}
use Rattle.table_entries.specs.Signs.{wanted}
use Rattle.table_entries.proofs.index.wanted.Given as goal

abbrev pub invariant-loop-i : goal.invariant-loop-i
invariant-loop-i l = l.sign.items ++ wanted (drop l.i l.kinds) l.length (drop l.i l.keys) ≡ wanted l.kinds l.length l.keys
