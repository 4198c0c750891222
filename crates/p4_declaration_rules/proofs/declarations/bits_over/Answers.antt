use Rattle.std.proofs.Common.{lit<}
use Rattle.p4_scopes.specs.View.{scope_of}
use Rattle.p4_declaration_rules.proofs.Sizes.{bits_at_first}
use Rattle.p4_declaration_rules.proofs.declarations.bits_over.Goals as goal

pub loop-field-init : goal.loop-field-init
loop-field-init c = record { small = lit< tt; rest = bits_at_first (scope_of c.args.scope.now) c.args.fields.now }
