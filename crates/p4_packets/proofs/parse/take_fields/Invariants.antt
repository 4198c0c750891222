use Rattle.std.proofs.Common.{◌≡◌, ◌+◌, map, drop}
use Rattle.p4_meaning.specs.Parsing.{fields_taken, width_sum}
use Rattle.p4_parts.specs.Headers.{field_in}
use Rattle.p4_packets.specs.Places.{reading_of}
use Rattle.p4_packets.proofs.parse.take_fields.Given as goal

abbrev pub invariant-loop-f : goal.invariant-loop-f
invariant-loop-f l = record {
  taken : fields_taken l.path (map field_in (drop l.f-index l.fields)) (reading_of l.s l.frame l.end) ≡ fields_taken l.path (map field_in l.fields) (reading_of l.initial.s l.frame l.at);
  end : l.end + width_sum (map field_in (drop l.f-index l.fields)) ≡ l.at + width_sum (map field_in l.fields);
}
