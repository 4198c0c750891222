use Rattle.std.proofs.Common.{◌≡◌, drop, map}
use Rattle.p4_tree.specs.View.{key_of}
use Rattle.p4_declaration_rules.specs.Tables.{has_key_kind}
use Rattle.p4_declaration_rules.proofs.tables.has_key_kind.Given as goal

abbrev pub invariant-loop-key : goal.invariant-loop-key
invariant-loop-key l = has_key_kind (map key_of (drop l.key-index l.keys)) l.kind ≡ has_key_kind (map key_of l.keys) l.kind
