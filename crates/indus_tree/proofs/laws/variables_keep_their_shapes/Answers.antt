-- Each clause by the induction over blocks.
use Rattle.indus_tree.proofs.ShapesLemmas.{starts_shaped, block_keeps, entry_keeps, exit_keeps}
use Rattle.indus_tree.proofs.laws.variables_keep_their_shapes.Goals as goal

pub returns-clause-start : goal.returns-clause-start
returns-clause-start c ds = starts_shaped ds

pub returns-clause-blocks : goal.returns-clause-blocks
returns-clause-blocks c h items ss d shaped = block_keeps h ss items d shaped

pub returns-clause-entry : goal.returns-clause-entry
returns-clause-entry c p r tele sensors shaped = entry_keeps p r tele sensors shaped

pub returns-clause-exit : goal.returns-clause-exit
returns-clause-exit c p r tele sensors shaped = exit_keeps p r tele sensors shaped
