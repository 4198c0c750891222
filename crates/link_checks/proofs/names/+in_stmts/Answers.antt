use Rattle.std.proofs.Common.{List, refl, sym, ◌∙◌}
use Rattle.p4_tree.specs.View.{stmt_of, stmts_of}
use Rattle.p4_tree.specs.declared.statement.Stmt as code
use Rattle.link_faults.specs.WrittenNames.{names_of_stmt, names_of_stmts}
use Rattle.link_checks.proofs.Walks.{stops, goes}
use Rattle.link_checks.proofs.names.+in_stmts.Goals as goal

pub in_stmts-returns-then-is_some : goal.in_stmts-returns-then-is_some
in_stmts-returns-then-is_some t c =
    stops (λ (xs : List code.Stmt). names_of_stmts (stmts_of xs)) (λ (x : code.Stmt). names_of_stmt (stmt_of x)) (λ x xs. refl) c.args.list.now c.loop-s.s-index c.s-item.result c.loop-s-test.true c.s-item.is c.loop-s.invariant
    c.in_stmt-taken.result (c.in_stmt-taken.ensures) (sym c.is_some.ensures ∙ c.if-is_some.true)

pub in_stmts-loop-s-preserved : goal.in_stmts-loop-s-preserved
in_stmts-loop-s-preserved t c =
    goes (λ (xs : List code.Stmt). names_of_stmts (stmts_of xs)) (λ (x : code.Stmt). names_of_stmt (stmt_of x)) (λ x xs. refl) c.args.list.now c.loop-s.s-index c.s-item.result c.loop-s-test.true c.s-item.is c.loop-s.invariant
    c.in_stmt-taken.result (c.in_stmt-taken.ensures) (sym c.is_some.ensures ∙ c.if-is_some.false)
