-- Flat code is flat.
use Rattle.std.proofs.Common.{◌≡◌, ℕ, zero, suc, ◌+◌, ◌-◌, ◌/◌, List, [], ◌∷◌, ◌++◌, length, map, Bool, true, false, nat_le, Option, Some, None, refl, sym, ap, ap₂, ◌∙◌, subst}
use Rattle.std.specs.Prelude.{slice_index}
use Rattle.indus_tree.specs.Tree.{Shape, one, list, set, dict, Expr, Exprs, num, flag, read, count, index, member, negation, inversion, binary, cast, none, more, Stmt, Stmts, assign, cell, push, choice, loop, reject, report, done, next, block_from, Decl}
use Rattle.indus_tree.specs.State.{lookup}
use Rattle.indus_tree.specs.Hops.{variable_number}
use Rattle.indus_tree.specs.declared.tree.Op.{Op}
use Rattle.indus_tree.specs.declared.tree.Op.TheVariants.{Both, Either}
use Rattle.lower_lists.specs.Names.{item_name}
use Rattle.indus_tree.specs.declared.tree.Ty.{Ty}
use Rattle.indus_tree.specs.declared.tree.Ty.TheVariants as ty
use Rattle.indus_types.specs.Sums.{is_list, found_list, shape_is_list, smallest}
use Rattle.lower_lists.specs.declared.place.Bound.{Bound}
use Rattle.lower_lists.specs.declared.place.ListPlace.{ListPlace}
use Rattle.lower_lists.specs.Flat.{list_in, list_of, list_of_shape, list_number, halves, joined, has_item, is_item, all_have, distinct, any_item, flat_member, flat_expr, flat_exprs, nothing, move, moves, clear, count_more, pushed, push_to, flat_push, bound_to, turns, flat_stmt, flat_block, flat_of}
use Rattle.flat_laws.specs.Form.{IsFlatExpr, AreFlatExprs, IsFlatStmt, IsFlatBlock, FlatCodeIsFlat}
use Rattle.flat_laws.proofs.States.{has_number}

module _ (ds : List Decl) where
  -- ---- tests

  halves_flat : (p : ℕ) (op : Op) (test : ℕ → Expr) → ((k : ℕ) → IsFlatExpr ds (test k)) → (fuel first n : ℕ) → IsFlatExpr ds (halves p op test fuel first n)
  halves_flat p op test h zero first n = h first
  halves_flat p op test h (suc fuel) first n =
      elim (nat_le n 1) as (λ b. IsFlatExpr ds (elim b [ true ↦ test first | false ↦ binary p op (halves p op test fuel first (n / 2)) (halves p op test fuel (first + n / 2) (n - n / 2)) ])) [
        | true ↦ h first
        | false ↦ (halves_flat p op test h fuel first (n / 2), halves_flat p op test h fuel (first + n / 2) (n - n / 2))
      ]

  joined_flat : (p : ℕ) (op : Op) (b : Bool) (test : ℕ → Expr) → ((k : ℕ) → IsFlatExpr ds (test k)) → (n : ℕ) → IsFlatExpr ds (joined p op b test n)
  joined_flat p op b test h zero = tt
  joined_flat p op b test h (suc n) = halves_flat p op test h (suc n) 0 (suc n)

  all_have_flat : (p : ℕ) (vs : List ℕ) (i : ℕ) → IsFlatExpr ds (all_have p vs i)
  all_have_flat p vs i = joined_flat p Both true (λ k. has_item p (slice_index vs k) i) (λ k. (tt, tt)) (length vs)

  any_item_flat : (p : ℕ) (e : Expr) (l : ListPlace) → IsFlatExpr ds e → IsFlatExpr ds (any_item p e l)
  any_item_flat p e l f = joined_flat p Either false (is_item p e l.number) (λ k. ((tt, tt), (tt, f))) l.size

  -- ---- expressions

  no_list_shape : (v : ℕ) (s : Shape) → list_of_shape v s ≡ None → shape_is_list s ≡ false
  no_list_shape v (one t) e = refl
  no_list_shape v (list t n) e = absurd (cc e)
  no_list_shape v (set ks) e = refl
  no_list_shape v (dict ks t) e = refl

  pub no_list_at : (x : List ℕ) (o : Option Decl) → lookup ds x ≡ o → list_in (variable_number ds x) o ≡ None → found_list o ≡ false
  no_list_at x None e h = refl
  no_list_at x (Some d) e h =
      let n = has_number ds 0 x d e in
      no_list_shape n.0 d.shape (ap (λ v. list_in v (Some d)) (sym n.1) ∙ h)

  member_flat : (p : ℕ) (ks : Exprs) (x : List ℕ) (o : Option ListPlace) → list_of ds x ≡ o → AreFlatExprs ds ks → IsFlatExpr ds (flat_member p ks x o)
  member_flat p ks x None e f = (no_list_at x (lookup ds x) refl e, f)
  member_flat p none x (Some l) e f = tt
  member_flat p (more a es) x (Some l) e f = any_item_flat p a l f.0

  module _ (bs : List Bound) where
    mutual
      expr_flat : (e : Expr) → IsFlatExpr ds (flat_expr ds bs e)
      expr_flat (num p n) = tt
      expr_flat (flag p b) = tt
      expr_flat (read p x) = tt
      expr_flat (count p x) = tt
      expr_flat (index p x ks) = exprs_flat ks
      expr_flat (member p ks x) = member_flat p (flat_exprs ds bs ks) x (list_of ds x) refl (exprs_flat ks)
      expr_flat (negation p a) = expr_flat a
      expr_flat (inversion p a) = expr_flat a
      expr_flat (binary p op a b) = (expr_flat a, expr_flat b)
      expr_flat (cast p w a) = expr_flat a

      exprs_flat : (es : Exprs) → AreFlatExprs ds (flat_exprs ds bs es)
      exprs_flat none = tt
      exprs_flat (more e es) = (expr_flat e, exprs_flat es)

  -- ---- statements

  append_flat : (a b : List Stmt) → IsFlatBlock ds (block_from a) → IsFlatBlock ds (block_from b) → IsFlatBlock ds (block_from (a ++ b))
  append_flat [] b f h = h
  append_flat (s ∷ a) b f h = (f.0, append_flat a b f.1 h)

  moves_flat : (p v m n : ℕ) → IsFlatBlock ds (block_from (moves p v m n))
  moves_flat p v m zero = tt
  moves_flat p v m (suc i) = append_flat (moves p v m i) (move p v m i ∷ []) (moves_flat p v m i) (((tt, tt), (tt, tt), tt), tt)

  nothing_flat : (p : ℕ) (t : Ty) → IsFlatExpr ds (nothing p t)
  nothing_flat p (ty.Bit w) = tt
  nothing_flat p ty.Bool = tt

  push_flat : (p : ℕ) (e : Expr) (v size : ℕ) (t : Ty) → IsFlatExpr ds e → IsFlatBlock ds (block_from (push_to p e v size t))
  push_flat p e v zero t f = tt
  push_flat p e v (suc m) t f = (
    (
      (tt, tt),
      append_flat (assign p (item_name v m) e ∷ moves p v m m) (clear p v m t ∷ count_more p v ∷ []) (f, moves_flat p v m m) (((tt, tt), (nothing_flat p t, tt), tt), ((tt, tt), tt)),
      tt,
    ),
    tt,
  )

  flat_push_flat : (p : ℕ) (e : Expr) (o : Option ListPlace) → IsFlatExpr ds e → IsFlatBlock ds (block_from (flat_push p e o))
  flat_push_flat p e None f = tt
  flat_push_flat p e (Some l) f = push_flat p e l.number l.size l.item f

  turns_flat : (p : ℕ) (body : List Bound → List Stmt) → ((cs : List Bound) → IsFlatBlock ds (block_from (body cs))) → (xs : List (List ℕ)) (vs : List ℕ) (bs : List Bound) (k : ℕ) → IsFlatBlock ds (block_from (turns p body xs vs bs k))
  turns_flat p body h xs vs bs zero = tt
  turns_flat p body h xs vs bs (suc k) = append_flat (turns p body xs vs bs k) (choice p (all_have p (distinct vs) k) (block_from (body (bs ++ bound_to xs vs k))) done ∷ []) (turns_flat p body h xs vs bs k) ((all_have_flat p (distinct vs) k, h (bs ++ bound_to xs vs k), tt), tt)

  mutual
    stmt_flat : (c : Stmt) (bs : List Bound) → IsFlatBlock ds (block_from (flat_stmt ds c bs))
    stmt_flat (assign p x e) bs = (expr_flat bs e, tt)
    stmt_flat (cell p x i e) bs = ((expr_flat bs i, expr_flat bs e), tt)
    stmt_flat (push p x e) bs = flat_push_flat p (flat_expr ds bs e) (list_of ds x) (expr_flat bs e)
    stmt_flat (choice p t a b) bs = ((expr_flat bs t, block_flat a bs, block_flat b bs), tt)
    stmt_flat (loop p ns ls a) bs = turns_flat p (flat_block ds a) (λ cs. block_flat a cs) ns (map (list_number ds) ls) bs (smallest ds ls)
    stmt_flat (reject p) bs = (tt, tt)
    stmt_flat (report p n es) bs = (exprs_flat bs es, tt)

    block_flat : (c : Stmts) (bs : List Bound) → IsFlatBlock ds (block_from (flat_block ds c bs))
    block_flat done bs = tt
    block_flat (next s ss) bs = append_flat (flat_stmt ds s bs) (flat_block ds ss bs) (stmt_flat s bs) (block_flat ss bs)

pub flat_code_is_flat : FlatCodeIsFlat
flat_code_is_flat ds ss = block_flat ds ss []
