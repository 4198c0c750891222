-- The height of flat code.
use Rattle.std.proofs.Common.{◌≡◌, ◌⊎◌, inl, inr, ⊎_elim, ℕ, zero, suc, ◌+◌, ◌-◌, ◌*◌, ◌/◌, ◌^◌, ◌<◌, ◌≤◌, max, List, [], ◌∷◌, ◌++◌, length, map, Bool, true, false, cond, Option, Some, None, refl, sym, ap, ap₂, ◌∙◌, arith, subst}
use Rattle.std.proofs.Math.Nat.{pow-suc}
use Rattle.std.specs.Prelude.{slice_index}
use Rattle.std.proofs.lemmas.Bool.{cases_lt}
use Rattle.indus_tree.specs.Tree.{Shape, one, list, set, dict, Expr, Exprs, num, flag, read, count, index, member, negation, inversion, binary, cast, none, more, Stmt, Stmts, assign, cell, push, choice, loop, reject, report, done, next, block_from, Decl, Property}
use Rattle.indus_tree.specs.Height.{expr_height, exprs_height, stmt_height, block_height}
use Rattle.indus_tree.specs.State.{lookup, shape_size}
use Rattle.indus_tree.specs.declared.tree.Op.{Op}
use Rattle.indus_tree.specs.declared.tree.Op.TheVariants.{Both, Either}
use Rattle.indus_tree.specs.declared.tree.Ty.{Ty}
use Rattle.indus_tree.specs.declared.tree.Ty.TheVariants as ty
use Rattle.indus_rules.specs.Rules.{IsWellTyped}
use Rattle.indus_types.specs.Sums.{is_list, size_of, size_in, smallest}
use Rattle.lower_lists.specs.Names.{item_name}
use Rattle.lower_lists.specs.declared.place.Bound.{Bound}
use Rattle.lower_lists.specs.declared.place.ListPlace.{ListPlace}
use Rattle.lower_lists.specs.Flat.{list_of, list_number, halves, joined, has_item, is_item, all_have, distinct, any_item, flat_member, flat_expr, flat_exprs, nothing, move, moves, clear, count_more, pushed, push_to, flat_push, bound_to, turns, flat_stmt, flat_block, flat_of}
use Rattle.lower_lists.proofs.Halves.{one_left, more_left}
use Rattle.flat_laws.specs.Sizes.{stmt_lists, block_lists, expr_depth, exprs_depth, stmt_depth, block_depth, HeightsAreBounded}
use Rattle.flat_laws.proofs.FormLemmas.{no_list_at}
use Rattle.flat_laws.proofs.SizeLemmas.{IsListOf, list_of_is, numbers_length}
use Rattle.flat_laws.proofs.Typed.{small_sizes}

-- ---- tests that are joined: one more for each halving

module _ (p : ℕ) (op : Op) (test : ℕ → Expr) (t : ℕ) (low : (k : ℕ) → expr_height (test k) ≤ t) where
  halves_height : (fuel first n k : ℕ) → n ≤ 2 ^ k → n ≤ fuel → expr_height (halves p op test fuel first n) ≤ t + k
  halves_height zero first n k few le = omega (arith, low first)
  halves_height (suc fuel) first n zero few le =
      let here = ap expr_height (one_left p op test (suc fuel) first n few) in omega (arith, here, low first)
  halves_height (suc fuel) first n (suc k) few le =
      ⊎_elim
      (λ (lt : 1 < n).
      let power = pow-suc 2 k in
      let l = halves_height fuel first (n / 2) k (omega (arith, power)) (omega arith) in
      let r = halves_height fuel (first + n / 2) (n - n / 2) k (omega (arith, power)) (omega arith) in
      let here = ap expr_height (more_left p op test fuel first n lt) in
      omega (arith, l, r, here))
      (λ (ge : n ≤ 1). let here = ap expr_height (one_left p op test (suc fuel) first n ge) in omega (arith, here, low first))
      (cases_lt 1 n)

  joined_height : (b : Bool) (n k : ℕ) → 1 ≤ t → n ≤ 2 ^ k → expr_height (joined p op b test n) ≤ t + k
  joined_height b zero k some few = omega arith
  joined_height b (suc n) k some few = halves_height (suc n) 0 (suc n) k few (omega arith)

all_have_height : (p : ℕ) (vs : List ℕ) (i k : ℕ) → length vs ≤ 2 ^ k → expr_height (all_have p vs i) ≤ 2 + k
all_have_height p vs i k few = joined_height p Both (λ j. has_item p (slice_index vs j) i) 2 (λ j. omega arith) true (length vs) k (omega arith) few

any_item_height : (p : ℕ) (e : Expr) (l : ListPlace) (h : ℕ) → 1 ≤ h → expr_height e ≤ h → l.size ≤ 255 → expr_height (any_item p e l) ≤ h + 10
any_item_height p e l h some le small =
    let j = joined_height p Either (is_item p e l.number) (h + 2) (λ k. omega (arith, le)) false l.size 8 (omega arith) (omega arith) in omega (arith, j)

some_height : (e : Expr) → 1 ≤ expr_height e
some_height (num p n) = omega arith
some_height (flag p b) = omega arith
some_height (read p x) = omega arith
some_height (count p x) = omega arith
some_height (index p x ks) = omega arith
some_height (member p ks x) = omega arith
some_height (negation p a) = omega arith
some_height (inversion p a) = omega arith
some_height (binary p op a b) = omega arith
some_height (cast p w a) = omega arith

module _ (ds : List Decl) (small : (x : List ℕ) → size_of ds x ≤ 255) where
  -- ---- expressions

  set_height : (h h' d : ℕ) (b : Bool) → b ≡ false → h' ≤ h + 9 * d → h' + 1 ≤ h + 1 + 9 * cond b (d + 1) d
  set_height h h' d true e le = absurd (cc e)
  set_height h h' d false e le = omega arith

  list_height : (h h' d : ℕ) (b : Bool) → b ≡ true → h' ≤ h + 9 * d + 10 → h' ≤ h + 1 + 9 * cond b (d + 1) d
  list_height h h' d false e le = absurd (cc e)
  list_height h h' d true e le = omega arith

  member_height : (p : ℕ) (ks ks' : Exprs) (x : List ℕ) (o : Option ListPlace) → list_of ds x ≡ o → exprs_height ks' ≤ exprs_height ks + 9 * exprs_depth ds ks
      → expr_height (flat_member p ks' x o) ≤ exprs_height ks + 1 + 9 * cond (is_list ds x) (exprs_depth ds ks + 1) (exprs_depth ds ks)
  member_height p ks ks' x None e h = set_height (exprs_height ks) (exprs_height ks') (exprs_depth ds ks) (is_list ds x) (no_list_at ds x (lookup ds x) refl e) h
  member_height p ks none x (Some l) e h = omega arith
  member_height p ks (more a es) x (Some l) e h =
      let is = list_of_is ds x l e in
      let le : expr_height a ≤ exprs_height ks + 9 * exprs_depth ds ks = omega (arith, h) in
      let here = any_item_height p a l (exprs_height ks + 9 * exprs_depth ds ks) (omega (arith, some_height a, le)) le (omega (arith, is.size, small x)) in
      list_height (exprs_height ks) (expr_height (any_item p a l)) (exprs_depth ds ks) (is_list ds x) is.list here

  module _ (bs : List Bound) where
    mutual
      flat_height : (e : Expr) → expr_height (flat_expr ds bs e) ≤ expr_height e + 9 * expr_depth ds e
      flat_height (num p n) = omega arith
      flat_height (flag p b) = omega arith
      flat_height (read p x) = omega arith
      flat_height (count p x) = omega arith
      flat_height (index p x ks) = let h = flat_heights ks in omega (arith, h)
      flat_height (member p ks x) = member_height p ks (flat_exprs ds bs ks) x (list_of ds x) refl (flat_heights ks)
      flat_height (negation p a) = let h = flat_height a in omega (arith, h)
      flat_height (inversion p a) = let h = flat_height a in omega (arith, h)
      flat_height (binary p op a b) = let h = flat_height a in let k = flat_height b in omega (arith, h, k)
      flat_height (cast p w a) = let h = flat_height a in omega (arith, h)

      flat_heights : (es : Exprs) → exprs_height (flat_exprs ds bs es) ≤ exprs_height es + 9 * exprs_depth ds es
      flat_heights none = omega arith
      flat_heights (more e es) = let h = flat_height e in let k = flat_heights es in omega (arith, h, k)

  -- ---- statements

  height-append : (a b : List Stmt) → block_height (block_from (a ++ b)) ≡ max (block_height (block_from a)) (block_height (block_from b))
  height-append [] b = omega arith
  height-append (s ∷ a) b = let h = height-append a b in omega (arith, h)

  moves_height : (p v m n : ℕ) → block_height (block_from (moves p v m n)) ≤ 3
  moves_height p v m zero = omega arith
  moves_height p v m (suc i) = let h = moves_height p v m i in omega (arith, height-append (moves p v m i) (move p v m i ∷ []), h)

  nothing_height : (p : ℕ) (t : Ty) → expr_height (nothing p t) ≡ 1
  nothing_height p (ty.Bit w) = refl
  nothing_height p ty.Bool = refl

  push_height : (p : ℕ) (e : Expr) (v n : ℕ) (t : Ty) → block_height (block_from (push_to p e v n t)) ≤ expr_height e + 4
  push_height p e v zero t = omega arith
  push_height p e v (suc m) t =
      omega (arith, height-append (assign p (item_name v m) e ∷ moves p v m m) (clear p v m t ∷ count_more p v ∷ []), moves_height p v m m, nothing_height p t)

  flat_push_height : (p : ℕ) (e : Expr) (o : Option ListPlace) → block_height (block_from (flat_push p e o)) ≤ expr_height e + 4
  flat_push_height p e None = omega arith
  flat_push_height p e (Some l) = push_height p e l.number l.size l.item

  turns_height : (p : ℕ) (body : List Bound → List Stmt) (h : ℕ) → ((cs : List Bound) → block_height (block_from (body cs)) ≤ h) → (xs : List (List ℕ)) (vs : List ℕ) (bs : List Bound) (i : ℕ) → length (distinct vs) ≤ 2 ^ i
      → (k : ℕ) → block_height (block_from (turns p body xs vs bs k)) ≤ max h (2 + i) + 1
  turns_height p body h le xs vs bs i few zero = omega arith
  turns_height p body h le xs vs bs i few (suc k) =
      let before = turns_height p body h le xs vs bs i few k in
      omega (arith, before, le (bs ++ bound_to xs vs k), all_have_height p (distinct vs) k i few, height-append (turns p body xs vs bs k) (choice p (all_have p (distinct vs) k) (block_from (body (bs ++ bound_to xs vs k))) done ∷ []))

  module _ (i : ℕ) where
    mutual
      stmt_low : (c : Stmt) (bs : List Bound) → stmt_lists c ≤ 2 ^ i → block_height (block_from (flat_stmt ds c bs)) ≤ stmt_height c + 9 * stmt_depth ds c + i + 3
      stmt_low (assign p x e) bs fit = let h = flat_height bs e in omega (arith, h)
      stmt_low (cell p x n e) bs fit = let h = flat_height bs e in let k = flat_height bs n in omega (arith, h, k)
      stmt_low (push p x e) bs fit = let h = flat_height bs e in omega (arith, h, flat_push_height p (flat_expr ds bs e) (list_of ds x))
      stmt_low (choice p t a b) bs fit =
          let h = flat_height bs t in
          let l = block_low a bs (omega arith) in
          let r = block_low b bs (omega arith) in
          omega (arith, h, l, r)
      stmt_low (loop p ns ls a) bs fit =
          let h = turns_height p (flat_block ds a) (block_height a + 9 * block_depth ds a + i + 3) (λ cs. block_low a cs (omega arith)) ns (map (list_number ds) ls) bs i (omega (arith, numbers_length (list_number ds) ls)) (smallest ds ls) in
          omega (arith, h)
      stmt_low (reject p) bs fit = omega arith
      stmt_low (report p n es) bs fit = let h = flat_heights bs es in omega (arith, h)

      block_low : (c : Stmts) (bs : List Bound) → block_lists c ≤ 2 ^ i → block_height (block_from (flat_block ds c bs)) ≤ block_height c + 9 * block_depth ds c + i + 3
      block_low done bs fit = omega arith
      block_low (next s ss) bs fit =
          let h = stmt_low s bs (omega arith) in
          let k = block_low ss bs (omega arith) in
          omega (arith, h, k, height-append (flat_stmt ds s bs) (flat_block ds ss bs))

pub heights_are_bounded : HeightsAreBounded
heights_are_bounded p typed ss halvings few = block_low p.decls (small_sizes p typed) halvings ss [] few
