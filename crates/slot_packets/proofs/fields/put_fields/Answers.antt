use Rattle.std.proofs.Common.{◌+◌}
use Rattle.bit_values.proofs.BytesLemmas.{same_behind}
use Rattle.slot_packets.specs.Fields.{widths_sum}
use Rattle.slot_packets.proofs.fields.put_fields.Goals as goal

pub returns-clause-left : goal.returns-clause-left
returns-clause-left c = same_behind c.args.buffer.now c.loop-i.buffer (c.args.at + widths_sum c.args.widths.now) c.loop-i.auto.buffer c.requires.within c.loop-i.invariant.behind
