use Rattle.std.proofs.Common.{◌+◌}
use Rattle.bit_values.proofs.BytesLemmas.{grown, same_behind}
use Rattle.slot_packets.proofs.writing.write_number.Goals as goal

pub returns-clause-grown : goal.returns-clause-grown
returns-clause-grown c =
    grown c.args.buffer.now c.write_parts.new.buffer c.args.at c.args.width c.args.number c.write_parts.auto.buffer c.requires.within c.write_parts.ensures.bits c.write_parts.ensures.others

pub returns-clause-left : goal.returns-clause-left
returns-clause-left c = same_behind c.args.buffer.now c.write_parts.new.buffer (c.args.at + c.args.width) c.write_parts.auto.buffer c.requires.within c.write_parts.ensures.others.behind
