use Rattle.std.proofs.Common.{map}
use Rattle.indus_tree.specs.View.{decl_of}
use Rattle.indus_types.proofs.Smallest.{smallest_of_all}
use Rattle.indus_types.proofs.lists.smallest.Goals as goal

pub loop-x-init : goal.loop-x-init
loop-x-init c = smallest_of_all (map decl_of c.args.decls.now.decls.now) c.args.lists.now
