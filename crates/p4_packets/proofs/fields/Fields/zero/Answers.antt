use Rattle.p4_packets.proofs.FieldsLemmas.{zero_all}
use Rattle.p4_packets.proofs.fields.Fields.zero.Goals as goal

pub returns : goal.returns
returns c = zero_all c.args.header.now c.args.self.now.values.items c.zero_fields_of.new.entries.items c.args.self.now.valid.items c.zero_fields_of.ensures
