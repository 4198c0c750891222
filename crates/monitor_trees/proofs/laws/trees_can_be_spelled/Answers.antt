-- All trees.
use Rattle.monitor_trees.proofs.SpelledTrees.{spelled}
use Rattle.monitor_trees.proofs.laws.trees_can_be_spelled.Goals as goal

pub returns : goal.returns
returns c g i words r q rn qn = spelled g i words r q rn qn
