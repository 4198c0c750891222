use Rattle.std.proofs.Common.{◌∙◌}
use Rattle.table_file.proofs.Steps.{same_shapes, shapes_there}
use Rattle.table_file.proofs.load.at_switch.Goals as goal

pub returns-clause-shapes : goal.returns-clause-shapes
returns-clause-shapes c = same_shapes c.args.states.now.items c.args.switch c.all_tables.new.state (c.all_tables.ensures.shapes ∙ shapes_there c.args.states.now.items c.args.switch c.index_mut.result.now c.requires.within c.index_mut.ensures.value)
