use Rattle.indus_rules.proofs.Steps.{Behind}
use Rattle.indus_rules.proofs.property.check_decls.Given as goal

abbrev pub invariant-loop-i : goal.invariant-loop-i
invariant-loop-i l = Behind l.decls l.i l.names.keys
