use Rattle.std.proofs.Common.{ap, ◌∙◌}
use Rattle.indus_scopes.specs.Items.{among}
use Rattle.indus_scopes.specs.NameTable.{texts}
use Rattle.indus_scopes.proofs.ItemNames.{texts_among}
use Rattle.indus_scopes.proofs.loops.is_there.Goals as goal

pub returns : goal.returns
returns c = c.contains.ensures ∙ texts_among c.args.table.now.keys c.as_str.result.now ∙ ap (among (texts c.args.table.now.keys)) c.as_str.ensures
