use Rattle.std.proofs.Common.{◌≡◌, map, take}
use Rattle.indus_tree.specs.View.{decl_of}
use Rattle.indus_tree.specs.declared.tree.DeclKind.TheVariants.{Tele}
use Rattle.indus_values.specs.View.{cells_in, cells_of}
use Rattle.indus_run.proofs.run.walked.Given as goal

abbrev pub invariant-loop-x : goal.invariant-loop-x
invariant-loop-x l = map cells_of l.all.items ≡ map (cells_in Tele (map decl_of l.decls) l.tele.items.items) (take l.x-index l.lists)
