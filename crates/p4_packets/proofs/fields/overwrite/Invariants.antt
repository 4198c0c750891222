use Rattle.std.proofs.Common.{◌≡◌, drop, take}
use Rattle.p4_packets.specs.Fields.{put_in}
use Rattle.p4_packets.proofs.FieldsLemmas.{behind}
use Rattle.p4_packets.proofs.fields.overwrite.Given as goal

abbrev pub invariant-loop-i : goal.invariant-loop-i
invariant-loop-i g l = record { same : l.entries ≡ l.initial.entries; rest : behind (take l.i l.entries.items) (put_in (drop l.i l.entries.items) l.path l.v) ≡ put_in l.entries.items l.path l.v }
