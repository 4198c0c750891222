use Rattle.std.proofs.Common.{◌≡◌, take}
use Rattle.p4_tables.proofs.held.copy_tables.Given as goal

abbrev pub invariant-loop-h : goal.invariant-loop-h
invariant-loop-h l = l.copies.items ≡ take l.h-index l.list
