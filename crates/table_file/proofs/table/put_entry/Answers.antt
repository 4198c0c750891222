use Rattle.p4_tables.specs.State.{inserted}
use Rattle.p4_tables.specs.Faults.{entry_fault}
use Rattle.table_entries.specs.View.{entry_of}
use Rattle.table_file.proofs.Steps.{refuses}
use Rattle.table_file.proofs.table.put_entry.Goals as goal

pub returns-in-Err-clause-answer : goal.returns-in-Err-clause-answer
returns-in-Err-clause-answer c = λ other. refuses c.args.path.now (entry_fault c.args.state.now c.args.table (entry_of c.args.entry)) (inserted c.args.state.now c.args.table (entry_of c.args.entry)) c.in-Err.fault c.refused.result (c.in-Err.ensures.cause (c.refused.ensures.memory other)) (c.refused.ensures.refused other)
