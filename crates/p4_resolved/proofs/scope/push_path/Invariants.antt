use Rattle.std.proofs.Common.{◌≡◌, ◌++◌, take}
use Rattle.p4_resolved.proofs.scope.push_path.Given as goal

abbrev pub invariant-loop-x : goal.invariant-loop-x
invariant-loop-x l = l.copies.items ≡ l.initial.copies.items ++ take l.x-index l.path
