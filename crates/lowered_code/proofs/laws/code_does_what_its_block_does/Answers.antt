use Rattle.lowered_code.proofs.Statements.{block_runs}
use Rattle.lowered_code.proofs.laws.code_does_what_its_block_does.Goals as goal

pub returns : goal.returns
returns c = block_runs
