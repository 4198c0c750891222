use Rattle.std.proofs.Common.{◌≡◌, drop, map}
use Rattle.p4_tree.specs.View.{key_of}
use Rattle.p4_declaration_rules.specs.Tables.{has_two_prefixes}
use Rattle.p4_declaration_rules.proofs.tables.has_two_prefixes.Given as goal

abbrev pub invariant-loop-i : goal.invariant-loop-i
invariant-loop-i l = has_two_prefixes (map key_of (drop l.i l.keys)) ≡ has_two_prefixes (map key_of l.keys)
