use Rattle.std.proofs.Common.{◌≡◌, ◌++◌, map, drop}
use Rattle.bit_writer.specs.Written.{bits_in}
use Rattle.p4_meaning.specs.Parsing.{fields_bits}
use Rattle.p4_parts.specs.Headers.{field_in}
use Rattle.p4_packets.specs.Fields.{store_of}
use Rattle.p4_packets.proofs.write.put_fields.Given as goal

abbrev pub invariant-loop-f : goal.invariant-loop-f
invariant-loop-f l = bits_in l.out ++ fields_bits l.path (map field_in (drop l.f-index l.fields)) (store_of l.s) ≡ bits_in l.initial.out ++ fields_bits l.path (map field_in l.fields) (store_of l.s)
