use Rattle.std.proofs.Common.{◌≡◌, drop}
use Rattle.p4_packets.specs.Fields.{header_in}
use Rattle.p4_packets.proofs.fields.header_of.Given as goal

abbrev pub invariant-loop-entry : goal.invariant-loop-entry
invariant-loop-entry l = header_in (drop l.entry-index l.entries) l.path ≡ header_in l.entries l.path
