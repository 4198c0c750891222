use Rattle.slot_packets.proofs.PartLemmas.{part_held, part_others}
use Rattle.slot_packets.proofs.writing.write_part.Goals as goal

pub returns-clause-bits : goal.returns-clause-bits
returns-clause-bits c = part_held c.args.buffer.now c.args.at c.args.width c.args.part c.requires.wide c.requires.one c.requires.within c.requires.in_range

pub returns-clause-others : goal.returns-clause-others
returns-clause-others c = part_others c.args.buffer.now c.args.at c.args.width c.args.part c.requires.wide c.requires.one c.requires.within c.requires.in_range
