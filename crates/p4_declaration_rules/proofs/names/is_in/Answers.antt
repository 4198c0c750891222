use Rattle.std.proofs.Common.{ap, ◌∙◌}
use Rattle.p4_parser_states.specs.Cycles.{is_among}
use Rattle.p4_declaration_rules.specs.Loops.{named}
use Rattle.p4_declaration_rules.proofs.NameTables.{any_among}
use Rattle.p4_declaration_rules.proofs.names.is_in.Goals as goal

pub returns : goal.returns
returns c = c.contains.ensures ∙ any_among c.args.table.now.keys c.as_str.result.now ∙ ap (is_among (named c.args.table.now.keys)) c.as_str.ensures
