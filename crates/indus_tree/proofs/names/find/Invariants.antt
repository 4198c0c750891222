use Rattle.std.proofs.Common.{◌≡◌, map, drop}
use Rattle.indus_tree.specs.State.{lookup}
use Rattle.indus_tree.specs.View.{decl_of}
use Rattle.indus_tree.proofs.names.find.Given as goal

abbrev pub invariant-loop-d : goal.invariant-loop-d
invariant-loop-d l = lookup (map decl_of (drop l.d-index l.decls)) l.name ≡ lookup (map decl_of l.decls) l.name
