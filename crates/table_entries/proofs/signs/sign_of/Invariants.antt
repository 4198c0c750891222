use Rattle.std.proofs.Common.{◌≡◌, ◌++◌, map, drop}
use Rattle.table_entries.specs.Signs.{signs_of}
use Rattle.table_entries.specs.View.{match_of}
use Rattle.table_entries.proofs.signs.sign_of.Given as goal

abbrev pub invariant-loop-m : goal.invariant-loop-m
invariant-loop-m l = l.sign.items ++ signs_of (map match_of (drop l.m-index l.list)) ≡ signs_of (map match_of l.list)
