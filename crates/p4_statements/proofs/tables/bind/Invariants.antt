use Rattle.std.proofs.Common.{◌≡◌, map, drop}
use Rattle.p4_meaning.specs.Actions.{bound}
use Rattle.p4_parts.specs.PartsIn.{param_in}
use Rattle.p4_packets.specs.Fields.{store_of}
use Rattle.p4_statements.proofs.tables.bind.Given as goal

abbrev pub invariant-loop-i : goal.invariant-loop-i
invariant-loop-i l = bound (map param_in (drop l.i l.params)) (drop l.i l.words) (store_of l.s) ≡ bound (map param_in l.params) l.words (store_of l.initial.s)
