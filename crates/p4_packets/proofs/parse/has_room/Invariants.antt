use Rattle.std.proofs.Common.{◌≡◌, map, drop}
use Rattle.std.specs.Prelude.{nat_le}
use Rattle.p4_meaning.specs.Parsing.{width_sum}
use Rattle.p4_parts.specs.Headers.{field_in}
use Rattle.p4_packets.proofs.parse.has_room.Given as goal

abbrev pub invariant-loop-f : goal.invariant-loop-f
invariant-loop-f l = nat_le (width_sum (map field_in (drop l.f-index l.fields))) l.left ≡ nat_le (width_sum (map field_in l.fields)) l.room
