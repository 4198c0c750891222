use Rattle.std.proofs.Common.{◌≡◌, drop, map}
use Rattle.p4_tree.specs.View.{key_of}
use Rattle.p4_declaration_rules.specs.Tables.{all_key_kinds}
use Rattle.p4_declaration_rules.proofs.tables.all_key_kinds.Given as goal

abbrev pub invariant-loop-key : goal.invariant-loop-key
invariant-loop-key l = all_key_kinds (map key_of (drop l.key-index l.keys)) ≡ all_key_kinds (map key_of l.keys)
