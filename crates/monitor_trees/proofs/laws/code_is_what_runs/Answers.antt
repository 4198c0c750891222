-- The code of a block.
use Rattle.monitor_trees.proofs.laws.code_is_what_runs.Goals as goal
use Rattle.monitor_trees.proofs.BlockUnder.{block_is}

pub returns : goal.returns
returns c = block_is
