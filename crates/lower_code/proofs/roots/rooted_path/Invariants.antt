use Rattle.std.proofs.Common.{◌≡◌, ◌++◌, take}
use Rattle.lower_code.proofs.roots.rooted_path.Given as goal

abbrev pub invariant-loop-name : goal.invariant-loop-name
invariant-loop-name l = l.out.items ≡ l.initial.out.items ++ take l.name-index l.rest
