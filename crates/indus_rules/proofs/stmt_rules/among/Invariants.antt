use Rattle.std.proofs.Common.{◌≡◌, drop}
use Rattle.indus_scopes.specs.Items.{among}
use Rattle.indus_rules.proofs.stmt_rules.among.Given as goal

abbrev pub invariant-loop-y : goal.invariant-loop-y
invariant-loop-y l = among (drop l.y-index l.names) l.x ≡ among l.names l.x
