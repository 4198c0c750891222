use Rattle.std.proofs.Common.{ap, ◌∙◌, map, arith}
use Rattle.std.proofs.lemmas.List.{take_all}
use Rattle.p4_tree.specs.Tree.{stmts_from}
use Rattle.p4_tree.specs.View.{stmt_of}
use Rattle.p4_meaning.specs.Under.{stmt_under}
use Rattle.p4_resolved.specs.Scopes.{scope_of}
use Rattle.p4_resolved.proofs.UnderLemmas.{under-list}
use Rattle.p4_resolved.proofs.under.+under.Goals as goal

pub stmts_under-returns : goal.stmts_under-returns
stmts_under-returns t c =
    ap stmts_from (c.loop-s.invariant ∙ ap (λ l. map (stmt_under (scope_of c.args.sc.now)) (map stmt_of l)) (take_all c.loop-s.s-index c.args.list.now (omega arith)))
    ∙ under-list (scope_of c.args.sc.now) (map stmt_of c.args.list.now)
