-- How often a block of flat code reads: no more often than its text, each of its loops' turns counted.
use Rattle.std.proofs.Common.{◌≡◌, ℕ, zero, suc, ◌+◌, ◌*◌, ◌≤◌, List, [], ◌∷◌, ◌++◌, map, length, true, Option, Some, None, arith}
use Rattle.std.specs.Prelude.{slice_index}
use Rattle.indus_tree.specs.Tree as indus
use Rattle.indus_tree.specs.Tree.{Expr, Exprs, flag, read, binary, Decl, block_from}
use Rattle.indus_tree.specs.declared.tree.Op.TheVariants.{Add, Less, Equal, Both}
use Rattle.indus_tree.specs.declared.tree.Ty.{Ty}
use Rattle.indus_tree.specs.declared.tree.Ty.TheVariants as ty
use Rattle.indus_types.specs.Sums.{smallest}
use Rattle.lower_lists.specs.Names.{item_name, count_name}
use Rattle.lower_lists.specs.Flat.{list_of, list_number, target, has_item, all_have, byte, move, moves, nothing, clear, count_more, pushed, push_to, flat_push, distinct, bound_to, turns, flat_stmt, flat_block, flat_expr, flat_exprs}
use Rattle.lower_lists.specs.declared.place.ListPlace.{ListPlace}
use Rattle.lower_lists.specs.declared.place.Bound.{Bound}
use Rattle.lowered_code.specs.Reads.{reads}
use Rattle.lowered_code.specs.Statements as lowered
use Rattle.whole_properties.proofs.TextReads.{expr_reads, exprs_reads, stmt_reads, block_reads}
use Rattle.whole_properties.proofs.ReadCounts.{counted, AreCounted, Few, AllFew, joined_few, item_few, count_few, has_once, expr_few, exprs_few}

-- ---- how much the statements of a block read, whatever numbers they have

module _ (ds : List Decl) (m : Expr → ℕ) where
  abbrev mutual
    pub stmt_count : indus.Stmt → ℕ
    stmt_count (indus.assign p x e) = counted m (lowered.stmt_reads ds (indus.assign p x e))
    stmt_count (indus.cell p x i e) = counted m (lowered.stmt_reads ds (indus.cell p x i e))
    stmt_count (indus.push p x e) = 0
    stmt_count (indus.choice p t a b) = counted m (lowered.stmt_reads ds (indus.choice p t a b)) + (block_count a + block_count b)
    stmt_count (indus.loop p xs ls a) = 0
    stmt_count (indus.reject p) = 0
    stmt_count (indus.report p n es) = counted m (lowered.stmt_reads ds (indus.report p n es))

    pub block_count : indus.Stmts → ℕ
    block_count indus.done = 0
    block_count (indus.next s ss) = stmt_count s + block_count ss

-- ---- flat code

module _ (ds : List Decl) (m : Expr → ℕ) (c d : List ℕ → ℕ) (are : AreCounted ds m c d) (os : List Decl) where
  abbrev IsFew : ℕ → Expr → Type 0
  IsFew k e = Few ds m c d are k e

  -- some statements read so much at most
  abbrev AllRead : ℕ → List indus.Stmt → Type 0
  AllRead k ss = block_count ds m (block_from ss) ≤ k

  read_both : (j k : ℕ) (xs ys : List indus.Stmt) → AllRead j xs → AllRead k ys → AllRead (j + k) (xs ++ ys)
  read_both j k xs ys h i = let e = split xs in omega (arith, h, i, e)
    where
      split :
          (xs : List indus.Stmt) →
          block_count ds m (block_from (xs ++ ys)) ≡ block_count ds m (block_from xs) + block_count ds m (block_from ys)
      split [] = omega arith
      split (x ∷ xs) = let r = split xs in omega (arith, r)

  read_one : (k : ℕ) (s : indus.Stmt) → stmt_count ds m s ≤ k → AllRead k (s ∷ [])
  read_one k s h = omega (arith, h)

  assign_few : (k p : ℕ) (x : List ℕ) (e : Expr) → IsFew k e → stmt_count ds m (indus.assign p x e) ≤ k
  assign_few k p x e h = let a = h [] in omega (arith, a)

  cell_few :
      (j k p : ℕ) (x : List ℕ) (i e : Expr) → IsFew j i → IsFew k e → stmt_count ds m (indus.cell p x i e) ≤ j + k
  cell_few j k p x i e f h = let a = f [] in let b = h (reads ds i []) in omega (arith, a, b)

  choice_few :
      (i j k p : ℕ) (t : Expr) (a b : List indus.Stmt) → IsFew i t → AllRead j a → AllRead k b →
      stmt_count ds m (indus.choice p t (block_from a) (block_from b)) ≤ i + j + k
  choice_few i j k p t a b f h g = let x = f [] in omega (arith, x, h, g)

  report_few : (k p n : ℕ) (es : Exprs) → AllFew ds m c d are k es → stmt_count ds m (indus.report p n es) ≤ k
  report_few k p n es h = let a = h [] in omega (arith, a)

  -- ---- pushes

  counts_few : (p v : ℕ) → IsFew 0 (read p (count_name v))
  counts_few p v = count_few ds m c d are p v

  move_few : (p v n i : ℕ) → stmt_count ds m (move p v n i) ≤ 0
  move_few p v n i =
      choice_few 0 0 0 p (binary p Equal (read p (count_name v)) (byte p i)) (indus.assign p (item_name v i) (read p (item_name v n)) ∷ []) []
      (λ l. counts_few p v l) (read_one 0 (indus.assign p (item_name v i) (read p (item_name v n))) (assign_few 0 p (item_name v i) (read p (item_name v n)) (item_few ds m c d are p v n))) (omega arith)

  moves_few : (p v k n : ℕ) → AllRead 0 (moves p v k n)
  moves_few p v k zero = omega arith
  moves_few p v k (suc i) = read_both 0 0 (moves p v k i) (move p v k i ∷ []) (moves_few p v k i) (read_one 0 (move p v k i) (move_few p v k i))

  nothing_few : (p : ℕ) (t : Ty) → IsFew 0 (nothing p t)
  nothing_few p (ty.Bit w) l = omega arith
  nothing_few p ty.Bool l = omega arith

  clear_few : (p v n : ℕ) (t : Ty) → stmt_count ds m (clear p v n t) ≤ 0
  clear_few p v n t =
      choice_few 0 0 0 p (binary p Less (read p (count_name v)) (byte p n)) (indus.assign p (item_name v n) (nothing p t) ∷ []) []
      (λ l. counts_few p v l) (read_one 0 (indus.assign p (item_name v n) (nothing p t)) (assign_few 0 p (item_name v n) (nothing p t) (nothing_few p t))) (omega arith)

  pushed_few : (k p : ℕ) (e : Expr) (v n : ℕ) (t : Ty) → IsFew k e → AllRead k (pushed p e v n t)
  pushed_few k p e v n t h =
      let a = assign_few k p (item_name v n) e h in
      let b = moves_few p v n n in
      let x = clear_few p v n t in
      let y = assign_few 0 p (count_name v) (binary p Add (read p (count_name v)) (byte p 1)) (λ l. counts_few p v l) in
      let first : AllRead k (indus.assign p (item_name v n) e ∷ moves p v n n) = omega (arith, a, b) in
      let last : AllRead 0 (clear p v n t ∷ count_more p v ∷ []) = omega (arith, x, y) in
      let all = read_both k 0 (indus.assign p (item_name v n) e ∷ moves p v n n) (clear p v n t ∷ count_more p v ∷ []) first last in
      omega (arith, all)

  push_few : (k p : ℕ) (e : Expr) (o : Option ListPlace) → IsFew k e → AllRead k (flat_push p e o)
  push_few k p e None h = omega arith
  push_few k p e (Some l) h = by_size l.size
    where
      by_size : (size : ℕ) → AllRead k (push_to p e l.number size l.item)
      by_size zero = omega arith
      by_size (suc n) =
          let r = choice_few 0 k 0 p (binary p Less (read p (count_name l.number)) (byte p (suc n))) (pushed p e l.number n l.item) [] (λ l2. counts_few p l.number l2) (pushed_few k p e l.number n l.item h) (omega arith) in
          omega (arith, r)

  -- ---- loops

  have_few : (p : ℕ) (vs : List ℕ) (place : ℕ) → IsFew 0 (all_have p vs place)
  have_few p vs place = joined_few ds m c d are 0 (flag p true) p Both true (λ k. has_item p (slice_index vs k) place) (λ k. has_once ds m c d are p (slice_index vs k) place) (length vs)

  turns_few :
      (k p : ℕ) (body : List Bound → List indus.Stmt) (names : List (List ℕ)) (vs : List ℕ) (outer : List Bound) →
      ((inner : List Bound) → AllRead k (body inner)) → (many : ℕ) →
      AllRead (many * k) (turns p body names vs outer many)
  turns_few k p body names vs outer h zero = omega arith
  turns_few k p body names vs outer h (suc n) =
      let inner = outer ++ bound_to names vs n in
      let turn = indus.choice p (all_have p (distinct vs) n) (block_from (body inner)) indus.done in
      let one = choice_few 0 k 0 p (all_have p (distinct vs) n) (body inner) [] (have_few p (distinct vs) n) (h inner) (omega arith) in
      let r = read_both (n * k) (0 + k + 0) (turns p body names vs outer n) (turn ∷ []) (turns_few k p body names vs outer h n) (read_one (0 + k + 0) turn one) in
      omega (arith, r)

  -- ---- statements

  mutual
    stmt_few : (s : indus.Stmt) (outer : List Bound) → AllRead (stmt_reads os c d s) (flat_stmt os s outer)
    stmt_few (indus.assign p x e) outer = read_one _ (indus.assign p (target os x) (flat_expr os outer e)) (assign_few (expr_reads c d e) p (target os x) (flat_expr os outer e) (expr_few ds m c d are os outer e))
    stmt_few (indus.cell p x i e) outer =
        read_one _ (indus.cell p x (flat_expr os outer i) (flat_expr os outer e))
        (cell_few (expr_reads c d i) (expr_reads c d e) p x (flat_expr os outer i) (flat_expr os outer e) (expr_few ds m c d are os outer i) (expr_few ds m c d are os outer e))
    stmt_few (indus.push p x e) outer = push_few (expr_reads c d e) p (flat_expr os outer e) (list_of os x) (expr_few ds m c d are os outer e)
    stmt_few (indus.choice p t a b) outer =
        read_one _ (indus.choice p (flat_expr os outer t) (block_from (flat_block os a outer)) (block_from (flat_block os b outer)))
        (choice_few (expr_reads c d t) (block_reads os c d a) (block_reads os c d b) p (flat_expr os outer t) (flat_block os a outer) (flat_block os b outer) (expr_few ds m c d are os outer t) (block_few a outer) (block_few b outer))
    stmt_few (indus.loop p xs ls a) outer = turns_few (block_reads os c d a) p (flat_block os a) xs (map (list_number os) ls) outer (block_few a) (smallest os ls)
    stmt_few (indus.reject p) outer = omega arith
    stmt_few (indus.report p n es) outer = read_one _ (indus.report p n (flat_exprs os outer es)) (report_few (exprs_reads c d es) p n (flat_exprs os outer es) (exprs_few ds m c d are os outer es))

    pub block_few : (ss : indus.Stmts) (outer : List Bound) → AllRead (block_reads os c d ss) (flat_block os ss outer)
    block_few indus.done outer = omega arith
    block_few (indus.next s ss) outer = read_both (stmt_reads os c d s) (block_reads os c d ss) (flat_stmt os s outer) (flat_block os ss outer) (stmt_few s outer) (block_few ss outer)
