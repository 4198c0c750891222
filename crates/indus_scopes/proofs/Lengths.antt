-- A key has as many parts as there are types where the lengths are equal.
use Rattle.std.proofs.Common.{◌≡◌, ℕ, suc, ◌+◌, false, List, [], ◌∷◌, length, refl, sym, ap, ◌∙◌, nat_eq, arith}
use Rattle.std.proofs.lemmas.Bool.Decides.{nat_tests}
use Rattle.indus_tree.specs.Tree.{Exprs, none, more, exprs_count}
use Rattle.indus_tree.specs.declared.tree.Expr.{Expr}
use Rattle.indus_tree.specs.declared.tree.Ty.{Ty}
use Rattle.indus_tree.specs.View.{exprs_of}
use Rattle.indus_tree.proofs.Counts.{counted}
use Rattle.indus_scopes.specs.Uses.{as_many}

-- no item and some
pub none_some : (n : ℕ) → nat_eq 0 (suc n) ≡ false
none_some n = grind (arith, nat_tests)

pub some_none : (n : ℕ) → nat_eq (suc n) 0 ≡ false
some_none n = grind (arith, nat_tests)

-- one item more on both sides
pub both_more : (m n : ℕ) → nat_eq (suc m) (suc n) ≡ nat_eq m n
both_more m n = grind (arith, nat_tests)

parts : (es : Exprs) (ts : List Ty) → nat_eq (exprs_count es) (length ts) ≡ as_many es ts
parts none [] = refl
parts none (t ∷ ts) = none_some (length ts)
parts (more e es) [] = let next : exprs_count es + 1 ≡ suc (exprs_count es) = omega arith in ap (λ n. nat_eq n 0) next ∙ some_none (exprs_count es)
parts (more e es) (t ∷ ts) =
    let next : exprs_count es + 1 ≡ suc (exprs_count es) = omega arith in
    ap (λ n. nat_eq n (suc (length ts))) next ∙ both_more (exprs_count es) (length ts) ∙ parts es ts

pub as_many_parts : (es : List Expr) (ts : List Ty) → nat_eq (length es) (length ts) ≡ as_many (exprs_of es) ts
as_many_parts es ts = ap (λ n. nat_eq n (length ts)) (sym (counted es)) ∙ parts (exprs_of es) ts
