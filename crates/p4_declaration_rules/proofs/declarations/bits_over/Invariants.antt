use Rattle.std.proofs.Common.{◌≡◌, ◌<◌, ◌+◌, ◌%◌, drop}
use Rattle.p4_scopes.specs.View.{scope_of}
use Rattle.p4_declaration_rules.specs.Declarations.{bits_over}
use Rattle.p4_declaration_rules.proofs.declarations.bits_over.Given as goal

abbrev pub invariant-loop-field : goal.invariant-loop-field
invariant-loop-field l = record {
  small : l.bits < 8;
  rest : (l.bits + bits_over (scope_of l.scope) (drop l.field-index l.fields)) % 8 ≡ bits_over (scope_of l.scope) l.fields;
}
