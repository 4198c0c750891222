use Rattle.std.proofs.Common.{◌≡◌, map, drop, max}
use Rattle.p4_meaning.specs.Choice.{prefix_of}
use Rattle.table_entries.specs.View.{match_of}
use Rattle.table_entries.proofs.choice.prefix_of.Given as goal

abbrev pub invariant-loop-m : goal.invariant-loop-m
invariant-loop-m l = max l.most (prefix_of (map match_of (drop l.m-index l.list))) ≡ prefix_of (map match_of l.list)
