-- Flat code is flat over what flat code declares, and its reports are those of the text.
use Rattle.std.proofs.Common.{◌≡◌, ℕ, zero, suc, List, [], ◌∷◌, ◌++◌, map, false, Option, Some, None, refl, sym, ap, ◌∙◌}
use Rattle.indus_tree.specs.Tree.{Shape, one, list, set, dict, Expr, Exprs, none, more, num, flag, read, count, index, member, negation, inversion, binary, cast, Stmt, Stmts, assign, cell, push, choice, loop, reject, report, done, next, block_from, Decl}
use Rattle.indus_tree.specs.State.{lookup}
use Rattle.indus_tree.specs.Reports.{BlockReportsBelow, ReportsBelow}
use Rattle.indus_tree.specs.declared.tree.DeclKind.{DeclKind}
use Rattle.indus_tree.specs.declared.tree.DeclKind.TheVariants.{Tele, Sensor, Header, Control}
use Rattle.indus_types.specs.Sums.{shape_is_list, found_list, is_list, smallest}
use Rattle.lower_lists.specs.Names.{item_name}
use Rattle.lower_lists.specs.Flat.{list_of, list_number, moves, move, clear, count_more, push_to, flat_push, bound_to, all_have, distinct, turns, flat_stmt, flat_block, flat_expr}
use Rattle.lower_lists.specs.declared.place.ListPlace.{ListPlace}
use Rattle.lower_lists.specs.declared.place.Bound.{Bound}
use Rattle.flat_laws.specs.Form.{IsFlatExpr, AreFlatExprs, IsFlatStmt, IsFlatBlock}
use Rattle.flat_laws.specs.Numbered.{numbered}
use Rattle.lowered_code.specs.Suiting.{IsScalar}
use Rattle.whole_properties.proofs.Once.{AreOnce}
use Rattle.whole_properties.proofs.Declarations.{scalars, kept}

-- ---- flat code names no list of what flat code declares

module _ (ds : List Decl) (o : AreOnce ds) where
  no_list : (x : List ℕ) → is_list ds x ≡ false → is_list (numbered ds) x ≡ false
  no_list x h = go (lookup (numbered ds) x) refl
    where
      scalar_none : (s : Shape) → IsScalar s → shape_is_list s ≡ false
      scalar_none (one t) i = refl
      scalar_none (list t n) i = absurd i
      scalar_none (set ks) i = absurd i
      scalar_none (dict ks t) i = absurd i

      as_before : (c : Decl) → lookup (numbered ds) x ≡ Some c → (c.kind ≡ Tele → ⊥) → shape_is_list c.shape ≡ false
      as_before c is n = sym (ap found_list (kept ds o x c is n)) ∙ h

      by_kind :
          (c : Decl) → lookup (numbered ds) x ≡ Some c → (k : DeclKind) → c.kind ≡ k → shape_is_list c.shape ≡ false
      by_kind c is Tele k = scalar_none c.shape (scalars ds x c is k)
      by_kind c is Sensor k = as_before c is (λ z. absurd (let e : Tele ≡ Sensor = sym z ∙ k in cc))
      by_kind c is Header k = as_before c is (λ z. absurd (let e : Tele ≡ Header = sym z ∙ k in cc))
      by_kind c is Control k = as_before c is (λ z. absurd (let e : Tele ≡ Control = sym z ∙ k in cc))

      go : (q : Option Decl) → lookup (numbered ds) x ≡ q → found_list q ≡ false
      go None is = refl
      go (Some c) is = by_kind c is c.kind refl

  mutual
    expr_numbered : (e : Expr) → IsFlatExpr ds e → IsFlatExpr (numbered ds) e
    expr_numbered (num p n) i = tt
    expr_numbered (flag p b) i = tt
    expr_numbered (read p x) i = tt
    expr_numbered (count p x) i = absurd i
    expr_numbered (index p x ks) i = exprs_numbered ks i
    expr_numbered (member p ks x) i = (no_list x i.0, exprs_numbered ks i.1)
    expr_numbered (negation p a) i = expr_numbered a i
    expr_numbered (inversion p a) i = expr_numbered a i
    expr_numbered (binary p op a b) i = (expr_numbered a i.0, expr_numbered b i.1)
    expr_numbered (cast p w a) i = expr_numbered a i

    exprs_numbered : (es : Exprs) → AreFlatExprs ds es → AreFlatExprs (numbered ds) es
    exprs_numbered none i = tt
    exprs_numbered (more e es) i = (expr_numbered e i.0, exprs_numbered es i.1)

  mutual
    stmt_numbered : (s : Stmt) → IsFlatStmt ds s → IsFlatStmt (numbered ds) s
    stmt_numbered (assign p x e) i = expr_numbered e i
    stmt_numbered (cell p x a e) i = (expr_numbered a i.0, expr_numbered e i.1)
    stmt_numbered (push p x e) i = absurd i
    stmt_numbered (choice p t a b) i = (expr_numbered t i.0, block_numbered a i.1, block_numbered b i.2)
    stmt_numbered (loop p xs ls a) i = absurd i
    stmt_numbered (reject p) i = tt
    stmt_numbered (report p n es) i = exprs_numbered es i

    pub block_numbered : (ss : Stmts) → IsFlatBlock ds ss → IsFlatBlock (numbered ds) ss
    block_numbered done i = tt
    block_numbered (next s ss) i = (stmt_numbered s i.0, block_numbered ss i.1)

-- ---- reports

module _ (b : ℕ) (ds : List Decl) where
  abbrev Below : List Stmt → Type 0
  Below ss = BlockReportsBelow b (block_from ss)

  below_both : (xs ys : List Stmt) → Below xs → Below ys → Below (xs ++ ys)
  below_both [] ys h k = k
  below_both (s ∷ xs) ys h k = (h.0, below_both xs ys h.1 k)

  moves_below : (p v m n : ℕ) → Below (moves p v m n)
  moves_below p v m zero = tt
  moves_below p v m (suc i) = below_both (moves p v m i) (move p v m i ∷ []) (moves_below p v m i) (((tt, tt), tt), tt)

  push_below : (p : ℕ) (e : Expr) (o : Option ListPlace) → Below (flat_push p e o)
  push_below p e None = tt
  push_below p e (Some l) = by_size l.size
    where
      by_size : (size : ℕ) → Below (push_to p e l.number size l.item)
      by_size zero = tt
      by_size (suc m) =
          ((below_both (assign p (item_name l.number m) e ∷ moves p l.number m m) (clear p l.number m l.item ∷ count_more p l.number ∷ []) (tt, moves_below p l.number m m) (((tt, tt), tt), (tt, tt)), tt), tt)

  turns_below :
      (p : ℕ) (body : List Bound → List Stmt) → ((bs : List Bound) → Below (body bs)) →
      (xs : List (List ℕ)) (vs : List ℕ) (bs : List Bound) (n : ℕ) → Below (turns p body xs vs bs n)
  turns_below p body h xs vs bs zero = tt
  turns_below p body h xs vs bs (suc k) =
      below_both (turns p body xs vs bs k) (choice p (all_have p (distinct vs) k) (block_from (body (bs ++ bound_to xs vs k))) done ∷ []) (turns_below p body h xs vs bs k) ((h (bs ++ bound_to xs vs k), tt), tt)

  mutual
    stmt_below : (s : Stmt) (bs : List Bound) → ReportsBelow b s → Below (flat_stmt ds s bs)
    stmt_below (assign p x e) bs h = (tt, tt)
    stmt_below (cell p x i e) bs h = (tt, tt)
    stmt_below (push p x e) bs h = push_below p (flat_expr ds bs e) (list_of ds x)
    stmt_below (choice p t x y) bs h = ((block_below x bs h.0, block_below y bs h.1), tt)
    stmt_below (loop p xs ls a) bs h = turns_below p (flat_block ds a) (λ cs. block_below a cs h) xs (map (list_number ds) ls) bs (smallest ds ls)
    stmt_below (reject p) bs h = (tt, tt)
    stmt_below (report p n es) bs h = (h, tt)

    pub block_below : (ss : Stmts) (bs : List Bound) → BlockReportsBelow b ss → Below (flat_block ds ss bs)
    block_below done bs h = tt
    block_below (next s ss) bs h = below_both (flat_stmt ds s bs) (flat_block ds ss bs) (stmt_below s bs h.0) (block_below ss bs h.1)
