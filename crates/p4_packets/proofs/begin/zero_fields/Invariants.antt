use Rattle.std.proofs.Common.{◌≡◌, map, drop}
use Rattle.p4_meaning.specs.Pass.{zero_fields}
use Rattle.p4_parts.specs.Headers.{field_in}
use Rattle.p4_packets.specs.Fields.{store_of}
use Rattle.p4_packets.proofs.begin.zero_fields.Given as goal

abbrev pub invariant-loop-f : goal.invariant-loop-f
invariant-loop-f l = zero_fields l.path (map field_in (drop l.f-index l.fields)) (store_of l.s) ≡ zero_fields l.path (map field_in l.fields) (store_of l.initial.s)
