use Rattle.std.proofs.Common.{◌≡◌, map, drop}
use Rattle.p4_tree.specs.View.{case_of}
use Rattle.p4_meaning.specs.Parsing.{first_fit}
use Rattle.p4_packets.specs.Fields.{store_of}
use Rattle.p4_packets.proofs.select.first_fit.Given as goal

abbrev pub invariant-loop-c : goal.invariant-loop-c
invariant-loop-c l = first_fit (map case_of (drop l.c-index l.cases)) l.keys (store_of l.s) ≡ first_fit (map case_of l.cases) l.keys (store_of l.s)
