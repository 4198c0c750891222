use Rattle.std.proofs.Common.{◌≡◌, take}
use Rattle.p4_values.proofs.names.copy_path.Given as goal

abbrev pub invariant-loop-name : goal.invariant-loop-name
invariant-loop-name l = l.copies.items ≡ take l.name-index l.path
