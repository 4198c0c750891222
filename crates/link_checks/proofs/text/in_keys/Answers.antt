use Rattle.std.proofs.Common.{ℕ, List, [], ◌∷◌, ◌++◌, sym, ap, ◌∙◌, map}
use Rattle.p4_tree.specs.View.{expr_of, key_of}
use Rattle.std.proofs.lemmas.List.{append_assoc}
use Rattle.p4_tree.specs.declared.statement.Expr as code
use Rattle.link_faults.specs.WrittenNames.{first_taken, names_of_expr, names_of_keys}
use Rattle.link_checks.proofs.Walks.{stops, goes}
use Rattle.link_checks.proofs.text.in_keys.Goals as goal

pub returns-then-is_some : goal.returns-then-is_some
returns-then-is_some c =
    stops (λ (xs : List (code.Expr × List ℕ)). names_of_keys (map key_of xs)) (λ (x : (code.Expr × List ℕ)). names_of_expr (expr_of x.0) ++ x.1 ∷ []) (λ x xs. ap first_taken (append_assoc (names_of_expr (expr_of x.0)) (x.1 ∷ []) (names_of_keys (map key_of xs)))) c.args.keys.now c.loop-key.key-index c.key-item.result c.loop-key-test.true c.key-item.is c.loop-key.invariant
    c.first-taken.result (c.first-taken.ensures (names_of_expr (expr_of c.key-item.result.0)) (c.key-item.result.1 ∷ []) c.in_expr.ensures c.in_name.ensures) (sym c.is_some.ensures ∙ c.if-is_some.true)

pub loop-key-preserved : goal.loop-key-preserved
loop-key-preserved c =
    goes (λ (xs : List (code.Expr × List ℕ)). names_of_keys (map key_of xs)) (λ (x : (code.Expr × List ℕ)). names_of_expr (expr_of x.0) ++ x.1 ∷ []) (λ x xs. ap first_taken (append_assoc (names_of_expr (expr_of x.0)) (x.1 ∷ []) (names_of_keys (map key_of xs)))) c.args.keys.now c.loop-key.key-index c.key-item.result c.loop-key-test.true c.key-item.is c.loop-key.invariant
    c.first-taken.result (c.first-taken.ensures (names_of_expr (expr_of c.key-item.result.0)) (c.key-item.result.1 ∷ []) c.in_expr.ensures c.in_name.ensures) (sym c.is_some.ensures ∙ c.if-is_some.false)
