use Rattle.std.proofs.Common.{◌≡◌, map, drop}
use Rattle.indus_tree.specs.View.{decl_of}
use Rattle.wire_job.specs.Course.{first_control}
use Rattle.wire_job.proofs.load.first_control.Given as goal

-- what is found among those that are left is what is found among all
abbrev pub invariant-loop-decl : goal.invariant-loop-decl
invariant-loop-decl l = first_control (map decl_of (drop l.decl-index l.decls)) ≡ first_control (map decl_of l.decls)
