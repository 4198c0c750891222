use Rattle.std.proofs.Common.{◌≡◌, drop}
use Rattle.p4_declaration_rules.specs.Declarations.{has_twice}
use Rattle.p4_declaration_rules.specs.Loops.{named}
use Rattle.p4_declaration_rules.proofs.Seen.{still_twice}
use Rattle.p4_declaration_rules.proofs.names.has_twice.Given as goal

abbrev pub invariant-loop-name : goal.invariant-loop-name
invariant-loop-name l = still_twice (named l.seen.keys) (drop l.name-index l.names) ≡ has_twice l.names
