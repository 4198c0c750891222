use Rattle.std.proofs.Common.{◌∙◌}
use Rattle.json_parts.proofs.NameLemmas.{position_owned}
use Rattle.network_file.proofs.numbered.number.Goals as goal

pub returns : goal.returns
returns c = c.get_index_of.ensures.index ∙ position_owned c.args.name.now c.args.table.now.keys
