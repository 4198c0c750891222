use Rattle.std.proofs.Common.{drop}
use Rattle.p4_scopes.specs.View.{scope_of}
use Rattle.p4_rules.specs.Limits.{fields_bytes}
use Rattle.p4_declaration_rules.proofs.Sums.{IsSum}
use Rattle.p4_rules.proofs.limits.fields_bytes.Given as goal

abbrev pub invariant-loop-field : goal.invariant-loop-field
invariant-loop-field l = IsSum l.bytes (fields_bytes (scope_of l.scope) (drop l.field-index l.fields)) (fields_bytes (scope_of l.scope) l.fields)
