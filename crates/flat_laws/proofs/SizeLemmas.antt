-- The size of flat code, and its reports.
use Rattle.std.proofs.Common.{◌≡◌, ◌⊎◌, inl, inr, ⊎_elim, ℕ, zero, suc, ◌+◌, ◌-◌, ◌*◌, ◌/◌, ◌<◌, ◌≤◌, max, List, [], ◌∷◌, ◌++◌, length, map, Bool, true, false, cond, Option, Some, None, refl, sym, ap, ap₂, ◌∙◌, arith, subst, nat_eq, nat_le, length-append}
use Rattle.std.proofs.Math.Nat.{add-mul, mul-add, mul-le-mul_right, mul-le-mul_left, mul_assoc, mul_comm}
use Rattle.std.specs.Prelude.{slice_index}
use Rattle.std.specs.List.{list_any}
use Rattle.std.proofs.lemmas.Bool.{cases_lt}
use Rattle.indus_tree.specs.Tree.{Shape, one, list, set, dict, Expr, Exprs, num, flag, read, count, index, member, negation, inversion, binary, cast, none, more, Stmt, Stmts, assign, cell, push, choice, loop, reject, report, done, next, block_from, Decl}
use Rattle.indus_tree.specs.State.{lookup, shape_size}
use Rattle.indus_tree.specs.Hops.{variable_number}
use Rattle.indus_tree.specs.declared.tree.Op.{Op}
use Rattle.indus_tree.specs.declared.tree.Op.TheVariants.{Both, Either}
use Rattle.indus_tree.specs.declared.tree.Ty.{Ty}
use Rattle.indus_tree.specs.declared.tree.Ty.TheVariants as ty
use Rattle.indus_types.specs.Sums.{is_list, shape_is_list, found_list, size_of, size_in, smallest, expr_weight, exprs_weight, stmt_weight, block_weight}
use Rattle.lower_lists.specs.Names.{item_name}
use Rattle.lower_lists.specs.declared.place.Bound.{Bound}
use Rattle.lower_lists.specs.declared.place.ListPlace.{ListPlace}
use Rattle.lower_lists.specs.Flat.{list_in, list_of, list_of_shape, list_number, halves, joined, has_item, is_item, all_have, distinct, distinct_behind, any_item, flat_member, flat_expr, flat_exprs, nothing, move, moves, clear, count_more, pushed, push_to, flat_push, bound_to, turns, flat_stmt, flat_block, flat_of}
use Rattle.lower_lists.proofs.Halves.{one_left, more_left}
use Rattle.flat_laws.specs.Sizes.{expr_size, exprs_size, stmt_size, block_size, stmt_lists, block_lists, SizesAreBounded, stmt_reports, block_reports, ReportsAreBounded}
use Rattle.flat_laws.proofs.FormLemmas.{no_list_at}

-- ---- tests that are joined

module _ (p : ℕ) (op : Op) (test : ℕ → Expr) (t : ℕ) (same : (k : ℕ) → expr_size (test k) ≡ t) where
  halves_size : (fuel first n : ℕ) → 0 < n → n ≤ fuel → expr_size (halves p op test fuel first n) + 1 ≡ n * (t + 1)
  halves_size zero first n some le = absurd (omega arith)
  halves_size (suc fuel) first n some le =
      ⊎_elim
      (λ (lt : 1 < n).
      let l = halves_size fuel first (n / 2) (omega arith) (omega arith) in
      let r = halves_size fuel (first + n / 2) (n - n / 2) (omega arith) (omega arith) in
      let all : n / 2 + (n - n / 2) ≡ n = omega arith in
      let sum : n / 2 * (t + 1) + (n - n / 2) * (t + 1) ≡ n * (t + 1) = sym (add-mul (n / 2) (n - n / 2) (t + 1)) ∙ ap (λ m. m * (t + 1)) all in
      let here = ap expr_size (more_left p op test fuel first n lt) in
      omega (arith, l, r, sum, here))
      (λ (ge : n ≤ 1).
      let is_one : n ≡ 1 = omega arith in
      let here = ap expr_size (one_left p op test (suc fuel) first n ge) ∙ same first in
      let product : n * (t + 1) ≡ 1 * (t + 1) = ap (λ m. m * (t + 1)) is_one in
      omega (arith, here, product))
      (cases_lt 1 n)

  joined_size : (b : Bool) (n : ℕ) → expr_size (joined p op b test n) ≤ n * (t + 1) + 1
  joined_size b zero = omega arith
  joined_size b (suc n) = let h = halves_size (suc n) 0 (suc n) (omega arith) (omega arith) in omega (arith, h)

any_item_size : (p : ℕ) (e : Expr) (l : ListPlace) → expr_size (any_item p e l) ≤ l.size * (expr_size e + 7) + 1
any_item_size p e l =
    let step : (k : ℕ) → expr_size (is_item p e l.number k) ≡ expr_size e + 6 = λ k. omega arith in
    let h = joined_size p Either (is_item p e l.number) (expr_size e + 6) step false l.size in
    let seven : expr_size e + 6 + 1 ≡ expr_size e + 7 = omega arith in
    let product : l.size * (expr_size e + 6 + 1) ≡ l.size * (expr_size e + 7) = ap (λ m. l.size * m) seven in
    omega (arith, h, product)

kept_length : (b : Bool) (kept : List ℕ) (v : ℕ) → length (cond b kept (kept ++ v ∷ [])) ≤ length kept + 1
kept_length true kept v = omega arith
kept_length false kept v = omega (arith, length-append kept (v ∷ []))

behind_length : (kept vs : List ℕ) → length (distinct_behind kept vs) ≤ length kept + length vs
behind_length kept [] = omega arith
behind_length kept (v ∷ vs) =
    omega (arith, behind_length (cond (list_any (λ k. nat_eq k v) kept) kept (kept ++ v ∷ [])) vs, kept_length (list_any (λ k. nat_eq k v) kept) kept v)

pub distinct_length : (vs : List ℕ) → length (distinct vs) ≤ length vs
distinct_length vs = omega (arith, behind_length [] vs)

length-numbers : (f : List ℕ → ℕ) (ls : List (List ℕ)) → length (map f ls) ≡ length ls
length-numbers f [] = refl
length-numbers f (l ∷ ls) = ap suc (length-numbers f ls)

pub numbers_length : (f : List ℕ → ℕ) (ls : List (List ℕ)) → length (distinct (map f ls)) ≤ length ls
numbers_length f ls = omega (arith, distinct_length (map f ls), length-numbers f ls)

all_have_size : (p : ℕ) (vs : List ℕ) (i : ℕ) → expr_size (all_have p vs i) ≤ 4 * length vs + 1
all_have_size p vs i =
    let step : (k : ℕ) → expr_size (has_item p (slice_index vs k) i) ≡ 3 = λ k. refl in
    let h = joined_size p Both (λ k. has_item p (slice_index vs k) i) 3 step true (length vs) in omega (arith, h)

module _ (ds : List Decl) where
  -- ---- lists

  pub record IsListOf (x : List ℕ) (l : ListPlace) : Type 0 where
    pub list : is_list ds x ≡ true
    pub size : l.size ≡ size_of ds x

  shape_list : (v : ℕ) (s : Shape) (l : ListPlace) → list_of_shape v s ≡ Some l → (shape_is_list s ≡ true) × (l.size ≡ shape_size s)
  shape_list v (one t) l e = absurd (cc e)
  shape_list v (list t n) l e =
      let here : ListPlace = record { number = v; item = t; size = n } in
      let same : here ≡ l = cc in
      (refl, ap (λ (q : ListPlace). q.size) (sym same))
  shape_list v (set ks) l e = absurd (cc e)
  shape_list v (dict ks t) l e = absurd (cc e)

  list_at : (o : Option ℕ) (d : Option Decl) (l : ListPlace) → list_in o d ≡ Some l → (found_list d ≡ true) × (l.size ≡ size_in d)
  list_at None d l e = absurd (cc e)
  list_at (Some v) None l e = absurd (cc e)
  list_at (Some v) (Some d) l e = shape_list v d.shape l e

  pub list_of_is : (x : List ℕ) (l : ListPlace) → list_of ds x ≡ Some l → IsListOf x l
  list_of_is x l e = let h = list_at (variable_number ds x) (lookup ds x) l e in record { list = h.0; size = h.1 }

  -- ---- expressions: 7 nodes for each unit of weight

  set_size : (p : ℕ) (ks ks' : Exprs) (x : List ℕ) (b : Bool) → is_list ds x ≡ b → b ≡ false → exprs_size ks' ≤ 7 * exprs_weight ds ks → exprs_size ks' + 1 ≤ 7 * cond b (size_of ds x * (exprs_weight ds ks + 1) + 1) (exprs_weight ds ks + 1)
  set_size p ks ks' x true e f h = absurd (cc f)
  set_size p ks ks' x false e f h = omega (arith, h)

  list_size : (p : ℕ) (e : Expr) (w n : ℕ) (l : ListPlace) (b : Bool) → b ≡ true → l.size ≡ n → expr_size e ≤ 7 * w → expr_size (any_item p e l) ≤ 7 * cond b (n * (w + 1) + 1) (w + 1)
  list_size p e w n l false f s h = absurd (cc f)
  list_size p e w n l true f s h =
      let each : expr_size e + 7 ≤ (w + 1) * 7 = omega (arith, h) in
      let grown : l.size * (expr_size e + 7) ≤ l.size * ((w + 1) * 7) = mul-le-mul_left l.size each in
      let turned : l.size * ((w + 1) * 7) ≡ n * (w + 1) * 7 = ap (λ m. m * ((w + 1) * 7)) s ∙ sym (mul_assoc n (w + 1) 7) in
      omega (arith, any_item_size p e l, grown, turned)

  more_weight : (n : ℕ) (w u : ℕ) → w ≤ u → n * (w + 1) ≤ n * (u + 1)
  more_weight n w u le = (let h : w + 1 ≤ u + 1 = omega arith in mul-le-mul_left n h)

  none_list : (n w : ℕ) (b : Bool) → 1 ≤ 7 * cond b (n * (w + 1) + 1) (w + 1)
  none_list n w true = omega arith
  none_list n w false = omega arith

  member_size : (p : ℕ) (ks ks' : Exprs) (x : List ℕ) (o : Option ListPlace) → list_of ds x ≡ o → exprs_size ks' ≤ 7 * exprs_weight ds ks
      → expr_size (flat_member p ks' x o) ≤ 7 * cond (is_list ds x) (size_of ds x * (exprs_weight ds ks + 1) + 1) (exprs_weight ds ks + 1)
  member_size p ks ks' x None e h = set_size p ks ks' x (is_list ds x) refl (no_list_at ds x (lookup ds x) refl e) h
  member_size p ks none x (Some l) e h = none_list (size_of ds x) (exprs_weight ds ks) (is_list ds x)
  member_size p ks (more a es) x (Some l) e h =
      let is = list_of_is x l e in
      list_size p a (exprs_weight ds ks) (size_of ds x) l (is_list ds x) is.list is.size (omega (arith, h))

  module _ (bs : List Bound) where
    mutual
      flat_size : (e : Expr) → expr_size (flat_expr ds bs e) ≤ 7 * expr_weight ds e
      flat_size (num p n) = omega arith
      flat_size (flag p b) = omega arith
      flat_size (read p x) = omega arith
      flat_size (count p x) = omega arith
      flat_size (index p x ks) = let h = flat_sizes ks in omega (arith, h)
      flat_size (member p ks x) = member_size p ks (flat_exprs ds bs ks) x (list_of ds x) refl (flat_sizes ks)
      flat_size (negation p a) = let h = flat_size a in omega (arith, h)
      flat_size (inversion p a) = let h = flat_size a in omega (arith, h)
      flat_size (binary p op a b) = let h = flat_size a in let k = flat_size b in omega (arith, h, k)
      flat_size (cast p w a) = let h = flat_size a in omega (arith, h)

      flat_sizes : (es : Exprs) → exprs_size (flat_exprs ds bs es) ≤ 7 * exprs_weight ds es
      flat_sizes none = omega arith
      flat_sizes (more e es) = let h = flat_size e in let k = flat_sizes es in omega (arith, h, k)

  -- ---- statements: K nodes for each unit of weight

  size-append : (a b : List Stmt) → block_size (block_from (a ++ b)) ≡ block_size (block_from a) + block_size (block_from b)
  size-append [] b = omega arith
  size-append (s ∷ a) b = let h = size-append a b in omega (arith, h)

  moves_size : (p v m n : ℕ) → block_size (block_from (moves p v m n)) ≡ 6 * n
  moves_size p v m zero = refl
  moves_size p v m (suc i) = let h = moves_size p v m i in omega (arith, size-append (moves p v m i) (move p v m i ∷ []), h)

  nothing_size : (p : ℕ) (t : Ty) → expr_size (nothing p t) ≡ 1
  nothing_size p (ty.Bit w) = refl
  nothing_size p ty.Bool = refl

  push_size : (p : ℕ) (e : Expr) (v n : ℕ) (t : Ty) → block_size (block_from (push_to p e v n t)) ≤ expr_size e + 8 * n + 8
  push_size p e v zero t = omega arith
  push_size p e v (suc m) t =
      omega (arith, size-append (assign p (item_name v m) e ∷ moves p v m m) (clear p v m t ∷ count_more p v ∷ []), moves_size p v m m, nothing_size p t)

  module _ (K : ℕ) (wide : 8 ≤ K) where
    grow : (s w : ℕ) → s ≤ 7 * w → s ≤ K * w
    grow s w h = let g : 7 * w ≤ K * w = (let le : 7 ≤ K = omega arith in mul-le-mul_right w le) in omega (arith, h, g)

    flat_push_size : (p : ℕ) (e : Expr) (x : List ℕ) (w : ℕ) (o : Option ListPlace) → list_of ds x ≡ o → expr_size e ≤ 7 * w → block_size (block_from (flat_push p e o)) ≤ K * (w + size_of ds x + 1)
    flat_push_size p e x w None q h = omega arith
    flat_push_size p e x w (Some l) q h =
        let is = list_of_is x l q in
        let sum : w + size_of ds x + 1 ≡ w + (l.size + 1) = (let s = is.size in omega arith) in
        let product : K * (w + size_of ds x + 1) ≡ K * w + K * (l.size + 1) = ap (λ m. K * m) sum ∙ mul-add K w (l.size + 1) in
        let rest : 8 * (l.size + 1) ≤ K * (l.size + 1) = mul-le-mul_right (l.size + 1) wide in
        omega (arith, push_size p e l.number l.size l.item, grow (expr_size e) w h, product, rest)

    turns_size : (p : ℕ) (body : List Bound → List Stmt) (w len : ℕ) → ((cs : List Bound) → block_size (block_from (body cs)) ≤ K * w) → (xs : List (List ℕ)) (vs : List ℕ) (bs : List Bound)
        → length (distinct vs) ≤ len → 4 * len + 8 ≤ K → (k : ℕ) → block_size (block_from (turns p body xs vs bs k)) ≤ K * (k * (w + 1))
    turns_size p body w len h xs vs bs dl fit zero = omega arith
    turns_size p body w len h xs vs bs dl fit (suc k) =
        let before = turns_size p body w len h xs vs bs dl fit k in
        let more : suc k * (w + 1) ≡ k * (w + 1) + (w + 1) = (let s : suc k ≡ k + 1 = omega arith in ap (λ m. m * (w + 1)) s ∙ add-mul k 1 (w + 1) ∙ (let o : 1 * (w + 1) ≡ w + 1 = omega arith in ap (λ m. k * (w + 1) + m) o)) in
        let product : K * (suc k * (w + 1)) ≡ K * (k * (w + 1)) + K * (w + 1) = ap (λ m. K * m) more ∙ mul-add K (k * (w + 1)) (w + 1) in
        let last : K * (w + 1) ≡ K * w + K * 1 = mul-add K w 1 in
        omega (arith, size-append (turns p body xs vs bs k) (choice p (all_have p (distinct vs) k) (block_from (body (bs ++ bound_to xs vs k))) done ∷ []), all_have_size p (distinct vs) k, h (bs ++ bound_to xs vs k), before, product, last)

    mutual
      stmt_bound : (c : Stmt) (bs : List Bound) → 4 * stmt_lists c + 8 ≤ K → block_size (block_from (flat_stmt ds c bs)) ≤ K * stmt_weight ds c
      stmt_bound (assign p x e) bs fit = let h = grow (expr_size (flat_expr ds bs e)) (expr_weight ds e) (flat_size bs e) in let product = mul-add K (expr_weight ds e) 1 in omega (arith, h, product)
      stmt_bound (cell p x i e) bs fit =
          let h = grow (expr_size (flat_expr ds bs e)) (expr_weight ds e) (flat_size bs e) in
          let k = grow (expr_size (flat_expr ds bs i)) (expr_weight ds i) (flat_size bs i) in
          let product = mul-add K (expr_weight ds i + expr_weight ds e) 1 in
          let parts = mul-add K (expr_weight ds i) (expr_weight ds e) in
          omega (arith, h, k, product, parts)
      stmt_bound (push p x e) bs fit = flat_push_size p (flat_expr ds bs e) x (expr_weight ds e) (list_of ds x) refl (flat_size bs e)
      stmt_bound (choice p t a b) bs fit =
          let h = grow (expr_size (flat_expr ds bs t)) (expr_weight ds t) (flat_size bs t) in
          let l = block_bound a bs (omega arith) in
          let r = block_bound b bs (omega arith) in
          let product = mul-add K (expr_weight ds t + block_weight ds a + block_weight ds b) 1 in
          let parts = mul-add K (expr_weight ds t + block_weight ds a) (block_weight ds b) in
          let smaller = mul-add K (expr_weight ds t) (block_weight ds a) in
          omega (arith, h, l, r, product, parts, smaller)
      stmt_bound (loop p ns ls a) bs fit =
          let h = turns_size p (flat_block ds a) (block_weight ds a) (length ls) (λ cs. block_bound a cs (omega arith)) ns (map (list_number ds) ls) bs (numbers_length (list_number ds) ls) (omega arith) (smallest ds ls) in
          let product = mul-add K (smallest ds ls * (block_weight ds a + 1)) 1 in
          omega (arith, h, product)
      stmt_bound (reject p) bs fit = omega arith
      stmt_bound (report p n es) bs fit = let h = grow (exprs_size (flat_exprs ds bs es)) (exprs_weight ds es) (flat_sizes bs es) in let product = mul-add K (exprs_weight ds es) 1 in omega (arith, h, product)

      block_bound : (c : Stmts) (bs : List Bound) → 4 * block_lists c + 8 ≤ K → block_size (block_from (flat_block ds c bs)) ≤ K * block_weight ds c
      block_bound done bs fit = omega arith
      block_bound (next s ss) bs fit =
          let h = stmt_bound s bs (omega arith) in
          let k = block_bound ss bs (omega arith) in
          let product = mul-add K (stmt_weight ds s) (block_weight ds ss) in
          omega (arith, h, k, product, size-append (flat_stmt ds s bs) (flat_block ds ss bs))

pub sizes_are_bounded : SizesAreBounded
sizes_are_bounded ds ss = block_bound ds (4 * block_lists ss + 8) (omega arith) ss [] (omega arith)

-- ---- reports

reports-append : (a b : List Stmt) → block_reports (block_from (a ++ b)) ≡ block_reports (block_from a) + block_reports (block_from b)
reports-append [] b = omega arith
reports-append (s ∷ a) b = let h = reports-append a b in omega (arith, h)

moves_silent : (p v m n : ℕ) → block_reports (block_from (moves p v m n)) ≡ 0
moves_silent p v m zero = refl
moves_silent p v m (suc i) = let h = moves_silent p v m i in omega (arith, reports-append (moves p v m i) (move p v m i ∷ []), h)

push_silent : (p : ℕ) (e : Expr) (v n : ℕ) (t : Ty) → block_reports (block_from (push_to p e v n t)) ≡ 0
push_silent p e v zero t = refl
push_silent p e v (suc m) t = omega (arith, reports-append (assign p (item_name v m) e ∷ moves p v m m) (clear p v m t ∷ count_more p v ∷ []), moves_silent p v m m)

flat_push_silent : (p : ℕ) (e : Expr) (o : Option ListPlace) → block_reports (block_from (flat_push p e o)) ≡ 0
flat_push_silent p e None = refl
flat_push_silent p e (Some l) = push_silent p e l.number l.size l.item

turns_reports : (p : ℕ) (body : List Bound → List Stmt) (w : ℕ) → ((cs : List Bound) → block_reports (block_from (body cs)) ≤ w) → (xs : List (List ℕ)) (vs : List ℕ) (bs : List Bound) (k : ℕ) → block_reports (block_from (turns p body xs vs bs k)) ≤ k * (w + 1)
turns_reports p body w h xs vs bs zero = omega arith
turns_reports p body w h xs vs bs (suc k) =
    let before = turns_reports p body w h xs vs bs k in
    let more : suc k * (w + 1) ≡ k * (w + 1) + (w + 1) = (let s : suc k ≡ k + 1 = omega arith in ap (λ m. m * (w + 1)) s ∙ add-mul k 1 (w + 1) ∙ (let o : 1 * (w + 1) ≡ w + 1 = omega arith in ap (λ m. k * (w + 1) + m) o)) in
    omega (arith, before, more, h (bs ++ bound_to xs vs k), reports-append (turns p body xs vs bs k) (choice p (all_have p (distinct vs) k) (block_from (body (bs ++ bound_to xs vs k))) done ∷ []))

module _ (ds : List Decl) where
  mutual
    stmt_tells : (c : Stmt) (bs : List Bound) → block_reports (block_from (flat_stmt ds c bs)) ≤ stmt_weight ds c
    stmt_tells (assign p x e) bs = omega arith
    stmt_tells (cell p x i e) bs = omega arith
    stmt_tells (push p x e) bs = omega (arith, flat_push_silent p (flat_expr ds bs e) (list_of ds x))
    stmt_tells (choice p t a b) bs = let h = block_tells a bs in let k = block_tells b bs in omega (arith, h, k)
    stmt_tells (loop p ns ls a) bs = let h = turns_reports p (flat_block ds a) (block_weight ds a) (λ cs. block_tells a cs) ns (map (list_number ds) ls) bs (smallest ds ls) in omega (arith, h)
    stmt_tells (reject p) bs = omega arith
    stmt_tells (report p n es) bs = omega arith

    block_tells : (c : Stmts) (bs : List Bound) → block_reports (block_from (flat_block ds c bs)) ≤ block_weight ds c
    block_tells done bs = omega arith
    block_tells (next s ss) bs = let h = stmt_tells s bs in let k = block_tells ss bs in omega (arith, h, k, reports-append (flat_stmt ds s bs) (flat_block ds ss bs))

pub reports_are_bounded : ReportsAreBounded
reports_are_bounded ds ss = block_tells ds ss []
