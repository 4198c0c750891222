use Rattle.std.proofs.Common.{map, take}
use Rattle.table_entries.specs.Index.{IsIndex}
use Rattle.table_entries.specs.View.{entry_of}
use Rattle.table_entries.proofs.index.index_of.Given as goal

abbrev pub invariant-loop-i : goal.invariant-loop-i
invariant-loop-i l = IsIndex l.kinds l.has_ternary (map entry_of (take l.i l.list)) l.index
