use Rattle.p4_scopes.specs.View.{scope_of}
use Rattle.p4_rules.proofs.Bytes.{bytes_at_first}
use Rattle.p4_rules.proofs.limits.fields_bytes.Goals as goal

pub loop-field-init : goal.loop-field-init
loop-field-init c = bytes_at_first (scope_of c.args.scope.now) c.args.fields.now
