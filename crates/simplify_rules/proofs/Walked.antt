-- An expression that was gone through may stand for the one before, where each answer may.
use Rattle.std.proofs.Common.{inl, inr, Option, Some, Result, Ok, Err, IfOk, sym, subst}
use Rattle.p4_tree.specs.Tree.{Expr}
use Rattle.p4_tree.specs.View.{expr_of}
use Rattle.p4_tree.specs.declared.statement.Expr as code
use Rattle.rewriting_laws.specs.Standing.{MayStandFor}
use Rattle.rewriting_laws.proofs.Stands.{stands_self, stands_trans, stands_negation, stands_inversion, stands_opposite, stands_binary, stands_conditional, stands_slice, stands_cast}
use Rattle.simplify_rules.specs.Simplified.{IsAnswered, IsSimplified, left_alone, offered, HasSimplifiedParts, no_parts, in_negation, in_inversion, in_opposite, in_binary, in_conditional, in_slice, in_cast}

module _ (A : Expr → Option Expr → Type 0) (right : (e f : Expr) → A e (Some f) → MayStandFor e f) where
  answered_stands : (e f : Expr) → IsAnswered A e f → MayStandFor e f
  answered_stands e f (inl a) = right e f a
  answered_stands e f (inr a) = subst (MayStandFor e) (sym a.1) (stands_self e)

  mutual
    pub simplified_stands : {e f : Expr} → IsSimplified A e f → MayStandFor e f
    simplified_stands (left_alone {e = e} h) = stands_self e
    simplified_stands (offered {e = e} {i = i} {f = f} h w a) = stands_trans e i f (parts_stand w) (answered_stands i f a)

    parts_stand : {e f : Expr} → HasSimplifiedParts A e f → MayStandFor e f
    parts_stand (no_parts {e = e} h) = stands_self e
    parts_stand (in_negation {a = a} {b = b} p r) = stands_negation p a b (simplified_stands r)
    parts_stand (in_inversion {a = a} {b = b} p r) = stands_inversion p a b (simplified_stands r)
    parts_stand (in_opposite {a = a} {b = b} p r) = stands_opposite p a b (simplified_stands r)
    parts_stand (in_binary {a = a} {b = b} {c = c} {d = d} p op h r q) = stands_binary p op a b c d (simplified_stands r) (simplified_stands q)
    parts_stand (in_conditional {t = t} {a = a} {b = b} {u = u} {c = c} {d = d} p z r q) = stands_conditional p t a b u c d (simplified_stands z) (simplified_stands r) (simplified_stands q)
    parts_stand (in_slice {a = a} {b = b} p h l r) = stands_slice p h l a b (simplified_stands r)
    parts_stand (in_cast {a = a} {b = b} p t r) = stands_cast p t a b (simplified_stands r)

  pub results_stand : {F : Type 0} (e : Expr) (r : Result code.Expr F) → IfOk r (λ f. IsSimplified A e (expr_of f)) → IfOk r (λ f. MayStandFor e (expr_of f))
  results_stand e (Ok f) h = simplified_stands h
  results_stand e (Err x) h = tt
