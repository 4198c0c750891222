use Rattle.std.proofs.Common.{List, map, refl, sym, ◌∙◌}
use Rattle.p4_tree.specs.View.{expr_of}
use Rattle.p4_tree.specs.declared.statement.Expr as code
use Rattle.link_faults.specs.WrittenNames.{names_of_expr, names_of_exprs}
use Rattle.link_checks.proofs.Walks.{stops, goes}
use Rattle.link_checks.proofs.names.in_exprs.Goals as goal

pub returns-then-is_some : goal.returns-then-is_some
returns-then-is_some c =
    stops (λ (xs : List code.Expr). names_of_exprs (map expr_of xs)) (λ (x : code.Expr). names_of_expr (expr_of x)) (λ x xs. refl) c.args.list.now c.loop-e.e-index c.e-item.result c.loop-e-test.true c.e-item.is c.loop-e.invariant
    c.in_expr-taken.result (c.in_expr-taken.ensures) (sym c.is_some.ensures ∙ c.if-is_some.true)

pub loop-e-preserved : goal.loop-e-preserved
loop-e-preserved c =
    goes (λ (xs : List code.Expr). names_of_exprs (map expr_of xs)) (λ (x : code.Expr). names_of_expr (expr_of x)) (λ x xs. refl) c.args.list.now c.loop-e.e-index c.e-item.result c.loop-e-test.true c.e-item.is c.loop-e.invariant
    c.in_expr-taken.result (c.in_expr-taken.ensures) (sym c.is_some.ensures ∙ c.if-is_some.false)
