use Rattle.std.proofs.Common.{◌≡◌, ◌++◌, map}
use Rattle.indus_tree.specs.View.{stmt_of}
use Rattle.list_pushes.specs.Pushes.{moves}
use Rattle.list_pushes.proofs.pushes.moves.Given as goal

abbrev pub invariant-loop-place : goal.invariant-loop-place
invariant-loop-place l = map stmt_of l.out.items ≡ map stmt_of l.initial.out.items ++ moves l.at l.list l.last l.place
