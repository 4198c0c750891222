-- Flat expressions of a list, and the equations of the views.
use Rattle.std.proofs.Common.{◌≡◌, ◌⊎◌, inl, inr, ℕ, suc, ◌+◌, List, [], ◌∷◌, ◌++◌, map, refl, sym, ap, ap₂, ◌∙◌, arith, append_assoc, append-nil}
use Rattle.indus_tree.specs.Tree.{more, exprs_from, Stmt, choice, done, block_from, Decl}
use Rattle.indus_tree.specs.View.{expr_of}
use Rattle.indus_tree.specs.declared.tree.Expr as code
use Rattle.lower_lists.specs.declared.place.Bound.{Bound}
use Rattle.lower_lists.specs.Flat.{all_have, distinct, bound_to, turns, flat_expr, flat_exprs}

pub all_flat : (ds : List Decl) (bs : List Bound) (es : List code.Expr) → exprs_from (map (λ (e : code.Expr). flat_expr ds bs (expr_of e)) es) ≡ flat_exprs ds bs (exprs_from (map expr_of es))
all_flat ds bs [] = refl
all_flat ds bs (e ∷ es) = ap (more (flat_expr ds bs (expr_of e))) (all_flat ds bs es)

bound_none : (xs : List (List ℕ)) (vs : List ℕ) (k : ℕ) → (xs ≡ []) ⊎ (vs ≡ []) → bound_to xs vs k ≡ []
bound_none [] vs k h = refl
bound_none (x ∷ xs) [] k h = refl
bound_none (x ∷ xs) (v ∷ vs) k (inl e) = absurd (cc e)
bound_none (x ∷ xs) (v ∷ vs) k (inr e) = absurd (cc e)

-- the items of a turn stand behind those of the loops around
pub all_bound : (inner whole : List Bound) (xs : List (List ℕ)) (vs : List ℕ) (k : ℕ) → inner ++ bound_to xs vs k ≡ whole → (xs ≡ []) ⊎ (vs ≡ []) → inner ≡ whole
all_bound inner whole xs vs k e h = sym (append-nil inner) ∙ ap (λ bs. inner ++ bs) (sym (bound_none xs vs k h)) ∙ e

-- one turn more
pub turn_more : (p : ℕ) (body : List Bound → List Stmt) (xs : List (List ℕ)) (vs : List ℕ) (bs : List Bound) (k : ℕ) (before out new : List Stmt) (s : Stmt) (tested : List ℕ) (code : List Stmt) (inner : List Bound)
    → out ≡ before ++ turns p body xs vs bs k → new ≡ out ++ s ∷ [] → s ≡ choice p (all_have p tested k) (block_from code) done → tested ≡ distinct vs → code ≡ body inner → inner ≡ bs ++ bound_to xs vs k
    → new ≡ before ++ turns p body xs vs bs (k + 1)
turn_more p body xs vs bs k before out new s tested code inner o n c t b i =
    let more : suc k ≡ k + 1 = omega arith in
    let last : s ≡ choice p (all_have p (distinct vs) k) (block_from (body (bs ++ bound_to xs vs k))) done =
    c ∙ ap₂ (λ us ss. choice p (all_have p us k) (block_from ss) done) t (b ∙ ap body i) in
    n ∙ ap₂ (λ ss (r : Stmt). ss ++ r ∷ []) o last ∙ append_assoc before (turns p body xs vs bs k) (choice p (all_have p (distinct vs) k) (block_from (body (bs ++ bound_to xs vs k))) done ∷ []) ∙ ap (λ m. before ++ turns p body xs vs bs m) more
