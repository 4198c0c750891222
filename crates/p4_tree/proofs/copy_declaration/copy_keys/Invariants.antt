use Rattle.std.proofs.Common.{◌≡◌, map, take}
use Rattle.p4_tree.specs.View.{key_of}
use Rattle.p4_tree.proofs.copy_declaration.copy_keys.Given as goal

abbrev pub invariant-loop-key : goal.invariant-loop-key
invariant-loop-key l = map key_of l.copies.items ≡ map key_of (take l.key-index l.list)
