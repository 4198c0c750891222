use Rattle.indus_tree.specs.View.{property_of}
use Rattle.indus_types.proofs.Smallest.{smallest_of_all}
use Rattle.lower_lists.proofs.lists.smallest.Goals as goal

pub loop-x-init : goal.loop-x-init
loop-x-init c = smallest_of_all (property_of c.args.typed.now).decls c.args.lists.now
