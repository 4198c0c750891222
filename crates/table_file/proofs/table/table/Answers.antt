use Rattle.p4_tree.specs.View.{program_of}
use Rattle.table_file.proofs.Counts.{numbered}
use Rattle.table_file.proofs.table.table.Goals as goal

pub members-requires : goal.members-requires
members-requires c = numbered (program_of c.args.program.now) c.args.state.now c.args.name.now c.in-Some.table c.requires.same c.in-Some.ensures
