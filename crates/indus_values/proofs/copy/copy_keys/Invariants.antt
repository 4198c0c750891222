use Rattle.std.proofs.Common.{◌≡◌, map, take}
use Rattle.indus_values.specs.View.{cells_of}
use Rattle.indus_values.proofs.copy.copy_keys.Given as goal

abbrev pub invariant-loop-key : goal.invariant-loop-key
invariant-loop-key l = map cells_of l.copies.items ≡ map cells_of (take l.key-index l.keys)
