use Rattle.std.proofs.Common.{◌≡◌, map, drop}
use Rattle.table_entries.specs.Entries.{same_keys}
use Rattle.table_entries.specs.View.{match_of}
use Rattle.table_entries.proofs.compare.same_keys.Given as goal

abbrev pub invariant-loop-i : goal.invariant-loop-i
invariant-loop-i l = same_keys (map match_of (drop l.i l.a)) (map match_of (drop l.i l.b)) ≡ same_keys (map match_of l.a) (map match_of l.b)
