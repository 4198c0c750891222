use Rattle.std.proofs.Common.{drop}
use Rattle.p4_tree.specs.View.{stmts_of}
use Rattle.p4_scopes.specs.View.{scope_of}
use Rattle.p4_declaration_rules.specs.Digests.{most_of}
use Rattle.p4_declaration_rules.proofs.Sums.{IsSum}
use Rattle.p4_declaration_rules.proofs.digests.+most.Given as goal

abbrev pub invariant-most_of-loop-s : goal.invariant-most_of-loop-s
invariant-most_of-loop-s l = IsSum l.most (most_of (scope_of l.scope) (stmts_of (drop l.s-index l.body))) (most_of (scope_of l.scope) (stmts_of l.body))
