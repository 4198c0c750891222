use Rattle.std.proofs.Common.{◌≡◌, drop}
use Rattle.p4_declaration_rules.specs.Declarations.{has_twice, field_names}
use Rattle.p4_declaration_rules.specs.Loops.{named}
use Rattle.p4_declaration_rules.proofs.Seen.{still_twice}
use Rattle.p4_declaration_rules.proofs.names.has_field_twice.Given as goal

abbrev pub invariant-loop-field : goal.invariant-loop-field
invariant-loop-field l = still_twice (named l.seen.keys) (field_names (drop l.field-index l.fields)) ≡ has_twice (field_names l.fields)
