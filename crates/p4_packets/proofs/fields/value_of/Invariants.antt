use Rattle.std.proofs.Common.{◌≡◌, drop}
use Rattle.p4_packets.specs.Fields.{value_in}
use Rattle.p4_packets.proofs.fields.value_of.Given as goal

abbrev pub invariant-loop-entry : goal.invariant-loop-entry
invariant-loop-entry l = value_in (drop l.entry-index l.entries) l.path ≡ value_in l.entries l.path
