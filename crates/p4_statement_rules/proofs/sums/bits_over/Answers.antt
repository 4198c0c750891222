use Rattle.std.proofs.Common.{lit<}
use Rattle.p4_tree.specs.View.{expr_of}
use Rattle.std.proofs.Common.{map}
use Rattle.p4_scopes.specs.View.{scope_of}
use Rattle.p4_statement_rules.proofs.SumsLemmas.{bits_at_first}
use Rattle.p4_statement_rules.proofs.sums.bits_over.Goals as goal

pub loop-e-init : goal.loop-e-init
loop-e-init c = record { small = lit< tt; rest = bits_at_first (scope_of c.args.scope.now) (map expr_of c.args.values.now) }
