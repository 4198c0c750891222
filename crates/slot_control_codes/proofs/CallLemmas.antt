-- Places that calls ask for, and terms of their arguments.
use Rattle.std.proofs.Common.{◌≡◌, ◌≢◌, ℕ, ◌+◌, ◌<◌, length, drop, map, get_or, List, [], ◌∷◌, ◌++◌, Bool, true, false, ne_eqb, ◌&&◌, Option, Some, nat_eq, sym, ap, ◌∙◌, subst}
use Rattle.p4_tree.specs.Tree.{Expr}
use Rattle.p4_tree.specs.View.{expr_of}
use Rattle.p4_tree.specs.declared.statement.Expr as code_expr
use Rattle.slot_terms.specs.Typed.{Typed}
use Rattle.slot_terms.specs.Places.{Place, Places, Means}
use Rattle.slot_terms.specs.Known.{is_known}
use Rattle.slot_statements.proofs.TreeLemmas.{drop_one}
use Rattle.slot_controls.specs.StepRuns.{MeanAll}
use Rattle.slot_control_codes.specs.Known.{has_error, are_known}

-- the error of checksums has a place of one bit
pub error_known : (o : Option Place) (r : Place) → o ≡ Some r → r.width ≡ 1 → has_error o ≡ true
error_known o r e one = ap has_error e ∙ ap (λ w. nat_eq w 1) one

pub error_unknown : (o : Option Place) (r : Place) → o ≡ Some r → r.width ≢ 1 → has_error o ≡ false
error_unknown o r e other = ap has_error e ∙ ne_eqb r.width 1 other

-- ---- terms of arguments

-- one expression more is known
pub value_known_more : (m : Places) (o : Bool) (es : List code_expr.Expr) (i : ℕ) (e : code_expr.Expr) → i < length es → e ≡ get_or es i e → is_known m (expr_of e) ≡ true → are_known m (map expr_of (drop i es)) ≡ o → are_known m (map expr_of (drop (i + 1) es)) ≡ o
value_known_more m o es i e lt is one all =
    let a : are_known m (map expr_of (e ∷ drop (i + 1) es)) ≡ o = subst (λ xs. are_known m (map expr_of xs) ≡ o) (drop_one es i e lt is) all in
    sym (ap (λ b. b && are_known m (map expr_of (drop (i + 1) es))) one) ∙ a

-- one term more
pub terms_more : (m : Places) (es : List Expr) (ts : List Typed) (e : Expr) (t : Typed) → MeanAll m es ts → Means m e 0 t → MeanAll m (es ++ e ∷ []) (ts ++ t ∷ [])
terms_more m [] [] e t all one = (one, tt)
terms_more m [] (u ∷ ts) e t all one = absurd all
terms_more m (x ∷ es) [] e t all one = absurd all
terms_more m (x ∷ es) (u ∷ ts) e t all one = (all.0, terms_more m es ts e t all.1 one)
