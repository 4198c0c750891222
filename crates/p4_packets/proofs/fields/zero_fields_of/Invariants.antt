use Rattle.std.proofs.Common.{◌≡◌, ◌++◌, length, take, drop, map}
use Rattle.p4_packets.specs.Fields.{zero_under}
use Rattle.p4_packets.proofs.fields.zero_fields_of.Given as goal

abbrev pub invariant-loop-i : goal.invariant-loop-i
invariant-loop-i l = record { size : length l.entries.items ≡ l.i-end; made : take l.i l.entries.items ++ map (zero_under l.header) (drop l.i l.entries.items) ≡ map (zero_under l.header) l.initial.entries.items }
