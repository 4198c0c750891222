use Rattle.std.proofs.Common.{◌≡◌, ◌++◌, map, drop}
use Rattle.p4_tree.specs.View.{key_of}
use Rattle.control_tables.specs.Tables.{keys_from}
use Rattle.control_tables.proofs.tables.keys_of.Given as goal

-- the keys so far, and those of the parts that are left
abbrev pub invariant-loop-part : goal.invariant-loop-part
invariant-loop-part l = map key_of l.keys.items ++ keys_from l.number l.part (drop l.part l.types) ≡ keys_from l.number 0 l.types
