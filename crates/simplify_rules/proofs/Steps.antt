-- Steps of the walk, from what each call of it gives.
use Rattle.std.proofs.Common.{◌≡◌, true, false, Option, Result, Ok, Err, IfOk, sym, subst}
use Rattle.p4_tree.specs.Tree.{Expr}
use Rattle.p4_tree.specs.View.{expr_of}
use Rattle.p4_tree.specs.declared.statement.Expr as code
use Rattle.simplify_rules.specs.Simplified.{is_offered, has_no_parts, IsAnswered, IsSimplified, left_alone, offered, HasSimplifiedParts, no_parts}

module _ (A : Expr → Option Expr → Type 0) where
  pub by : (a b c d : Expr) → a ≡ b → d ≡ c → HasSimplifiedParts A b c → HasSimplifiedParts A a d
  by a b c d e f h = subst (λ (x : Expr). HasSimplifiedParts A x d) (sym e) (subst (λ (x : Expr). HasSimplifiedParts A b x) (sym f) h)

  pub kept_whole : {F : Type 0} (e : Expr) (r : Result code.Expr F) → has_no_parts e ≡ true → IfOk r (λ f. expr_of f ≡ e) → IfOk r (λ f. HasSimplifiedParts A e (expr_of f))
  kept_whole e (Ok f) h k = subst (HasSimplifiedParts A e) (sym k) (no_parts h)
  kept_whole e (Err x) h k = tt

  pub left_copy : {F : Type 0} (e : Expr) (r : Result code.Expr F) → is_offered e ≡ false → IfOk r (λ f. expr_of f ≡ e) → IfOk r (λ f. IsSimplified A e (expr_of f))
  left_copy e (Ok f) h k = subst (IsSimplified A e) (sym k) (left_alone h)
  left_copy e (Err x) h k = tt

  pub then_offered : {F : Type 0} (e i : Expr) (r : Result code.Expr F) → is_offered e ≡ true → HasSimplifiedParts A e i → IfOk r (λ f. IsAnswered A i (expr_of f)) → IfOk r (λ f. IsSimplified A e (expr_of f))
  then_offered e i (Ok f) h w a = offered h w a
  then_offered e i (Err x) h w a = tt
