use Rattle.p4_tree.specs.View.{stmts_of}
use Rattle.p4_scopes.specs.View.{scope_of}
use Rattle.p4_declaration_rules.proofs.Sums.{most_at_first}
use Rattle.p4_declaration_rules.proofs.digests.+most.Goals as goal

pub most_of-loop-s-init : goal.most_of-loop-s-init
most_of-loop-s-init t c = most_at_first (scope_of c.args.scope.now) (stmts_of c.args.body.now)
