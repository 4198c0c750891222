use Rattle.std.proofs.Common.{◌≡◌, map, take}
use Rattle.p4_tree.specs.View.{top_of}
use Rattle.exit_programs.specs.Programs.{top_without}
use Rattle.exit_rewriting.specs.Exiting.{exits_from}
use Rattle.exit_rewriting.proofs.declarations.tops_without.Given as goal

abbrev pub invariant-loop-top : goal.invariant-loop-top
invariant-loop-top l = map top_of l.new.items ≡ map (top_without (exits_from l.exiting)) (map top_of (take l.top-index l.tops))
