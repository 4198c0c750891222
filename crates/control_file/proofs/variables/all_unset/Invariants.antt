use Rattle.std.proofs.Common.{◌≡◌, ◌++◌, map, drop}
use Rattle.indus_tree.specs.View.{decl_of}
use Rattle.control_file.specs.Control.{all_unset}
use Rattle.control_file.specs.Views.{contents_view}
use Rattle.control_file.proofs.variables.all_unset.Given as goal

abbrev pub invariant-loop-decl : goal.invariant-loop-decl
invariant-loop-decl l = contents_view l.all ++ all_unset (map decl_of (drop l.decl-index l.decls)) ≡ all_unset (map decl_of l.decls)
