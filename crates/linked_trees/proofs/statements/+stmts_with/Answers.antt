use Rattle.std.proofs.Common.{ap, ◌∙◌, map, arith}
use Rattle.std.proofs.lemmas.List.{take_all}
use Rattle.p4_tree.specs.Tree.{stmts_from}
use Rattle.p4_tree.specs.View.{stmt_of}
use Rattle.p4_resolved.specs.Scopes.{roots_in}
use Rattle.linked_programs.specs.Rewritten.{stmt_with}
use Rattle.linked_trees.proofs.BlockLists.{with_list}
use Rattle.linked_trees.proofs.statements.+stmts_with.Goals as goal

pub stmts_with-returns : goal.stmts_with-returns
stmts_with-returns t c =
    ap stmts_from (c.loop-s.invariant ∙ ap (λ l. map (stmt_with (roots_in c.args.roots.now)) (map stmt_of l)) (take_all c.loop-s.s-index c.args.list.now (omega arith)))
    ∙ with_list (roots_in c.args.roots.now) (map stmt_of c.args.list.now)
