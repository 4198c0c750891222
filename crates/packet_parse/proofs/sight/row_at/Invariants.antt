use Rattle.std.proofs.Common.{◌≡◌, Some, None, drop}
use Rattle.p4_packets.specs.Fields.{look}
use Rattle.packet_parse.proofs.sight.row_at.Given as goal

abbrev pub invariant-loop-row : goal.invariant-loop-row
invariant-loop-row g l = look None Some (drop l.row-index l.rows) l.path ≡ look None Some l.rows l.path
