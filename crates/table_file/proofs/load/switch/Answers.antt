use Rattle.p4_tree.specs.View.{program_of}
use Rattle.table_file.proofs.Steps.{still_of}
use Rattle.table_file.proofs.load.switch.Goals as goal

pub returns-in-Some-clause-kept : goal.returns-in-Some-clause-kept
returns-in-Some-clause-kept c = still_of (program_of c.args.program.now) c.args.network.now.names c.args.states.now.items c.at_switch.new.states.items c.requires c.at_switch.ensures.shapes
