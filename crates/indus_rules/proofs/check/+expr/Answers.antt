use Rattle.std.proofs.Common.{ap, sym, ◌∙◌, ℕ, Some}
use Rattle.indus_tree.specs.View.{expr_of}
use Rattle.indus_scopes.specs.Sights.{scope_of}
use Rattle.indus_rules.proofs.Steps.{head_rule}
use Rattle.indus_rules.proofs.check.+expr.Goals as goal

pub check_known-returns-in-Some : goal.check_known-returns-in-Some
check_known-returns-in-Some t c =
    ap (λ (p : ℕ). Some (p, c.in-Some.rule)) c.place_of_expr.ensures ∙ sym (head_rule (scope_of c.args.scope.now) c.args.want (expr_of c.args.e.now) c.in-Some.rule (sym c.rule_of_expr.ensures ∙ c.in-Some.is))
