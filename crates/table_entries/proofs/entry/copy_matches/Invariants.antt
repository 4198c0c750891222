use Rattle.std.proofs.Common.{◌≡◌, take}
use Rattle.table_entries.proofs.entry.copy_matches.Given as goal

abbrev pub invariant-loop-m : goal.invariant-loop-m
invariant-loop-m l = l.copies.items ≡ take l.m-index l.list
