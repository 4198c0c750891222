-- How often a property's text reads names, where each has a number of its own that counts, and loops turn.
use Rattle.std.proofs.Common.{◌≡◌, ℕ, ◌+◌, ◌*◌, ◌≤◌, List, Bool, true, false, if◌then◌else◌, refl, ap, ap₂, arith}
use Rattle.std.proofs.Math.Nat.{mul-le-mul_left, mul-le-mul_right}
use Rattle.indus_tree.specs.Tree.{Expr, Exprs, none, more, num, flag, read, count, index, member, negation, inversion, binary, cast, Stmt, Stmts, done, next, assign, cell, push, choice, loop, reject, report, Decl}
use Rattle.indus_types.specs.Sums as sums
use Rattle.indus_types.specs.Sums.{is_list, size_of, smallest, is_v, expr_weight, exprs_weight, stmt_weight, block_weight}

-- c: of a name that is read, d: of one that is read at a key or that holds one
module _ (c d : List ℕ → ℕ) where
  abbrev mutual
    pub expr_reads : Expr → ℕ
    expr_reads (num p n) = 0
    expr_reads (flag p b) = 0
    expr_reads (read p x) = c x
    expr_reads (count p x) = 0
    expr_reads (index p x ks) = exprs_reads ks + d x
    expr_reads (member p ks x) = exprs_reads ks + d x
    expr_reads (negation p a) = expr_reads a
    expr_reads (inversion p a) = expr_reads a
    expr_reads (binary p o a b) = expr_reads a + expr_reads b
    expr_reads (cast p w a) = expr_reads a

    pub exprs_reads : Exprs → ℕ
    exprs_reads none = 0
    exprs_reads (more e es) = expr_reads e + exprs_reads es

module _ (ds : List Decl) (c d : List ℕ → ℕ) where
  abbrev mutual
    pub stmt_reads : Stmt → ℕ
    stmt_reads (assign p x e) = expr_reads c d e
    stmt_reads (cell p x i e) = expr_reads c d i + expr_reads c d e
    stmt_reads (push p x e) = expr_reads c d e
    stmt_reads (choice p t a b) = expr_reads c d t + block_reads a + block_reads b
    stmt_reads (loop p xs ls a) = smallest ds ls * block_reads a
    stmt_reads (reject p) = 0
    stmt_reads (report p n es) = exprs_reads c d es

    pub block_reads : Stmts → ℕ
    block_reads done = 0
    block_reads (next s ss) = stmt_reads s + block_reads ss

-- ---- those of one variable

module _ (v : List ℕ) where
  mutual
    expr_of : (e : Expr) → expr_reads (is_v v) (is_v v) e ≡ sums.expr_reads v e
    expr_of (num p n) = refl
    expr_of (flag p b) = refl
    expr_of (read p x) = refl
    expr_of (count p x) = refl
    expr_of (index p x ks) = ap (λ n. n + is_v v x) (exprs_of ks)
    expr_of (member p ks x) = ap (λ n. n + is_v v x) (exprs_of ks)
    expr_of (negation p a) = expr_of a
    expr_of (inversion p a) = expr_of a
    expr_of (binary p o a b) = ap₂ (λ n m. n + m) (expr_of a) (expr_of b)
    expr_of (cast p w a) = expr_of a

    exprs_of : (es : Exprs) → exprs_reads (is_v v) (is_v v) es ≡ sums.exprs_reads v es
    exprs_of none = refl
    exprs_of (more e es) = ap₂ (λ n m. n + m) (expr_of e) (exprs_of es)

  module _ (ds : List Decl) where
    mutual
      stmt_of : (s : Stmt) → stmt_reads ds (is_v v) (is_v v) s ≡ sums.stmt_reads ds v s
      stmt_of (assign p x e) = expr_of e
      stmt_of (cell p x i e) = ap₂ (λ n m. n + m) (expr_of i) (expr_of e)
      stmt_of (push p x e) = expr_of e
      stmt_of (choice p t a b) = ap₂ (λ n m. n + m) (ap₂ (λ n m. n + m) (expr_of t) (block_of a)) (block_of b)
      stmt_of (loop p xs ls a) = ap (λ n. smallest ds ls * n) (block_of a)
      stmt_of (reject p) = refl
      stmt_of (report p n es) = exprs_of es

      pub block_of : (ss : Stmts) → block_reads ds (is_v v) (is_v v) ss ≡ sums.block_reads ds v ss
      block_of done = refl
      block_of (next s ss) = ap₂ (λ n m. n + m) (stmt_of s) (block_of ss)

-- ---- all together are no more than the weight, where lists have room

module _ (ds : List Decl) (roomy : (x : List ℕ) → is_list ds x ≡ true → 1 ≤ size_of ds x) (c d : List ℕ → ℕ) (c_one : (x : List ℕ) → c x ≤ 1) (d_one : (x : List ℕ) → d x ≤ 1) where
  -- membership in a list looks at each place, and there is one
  member_light :
      (ks : Exprs) (x : List ℕ) (b : Bool) → (b ≡ true → 1 ≤ size_of ds x) → exprs_reads c d ks ≤ exprs_weight ds ks →
      exprs_reads c d ks + d x ≤ (if b then size_of ds x * (exprs_weight ds ks + 1) + 1 else exprs_weight ds ks + 1)
  member_light ks x true some h = let one = d_one x in let turns = mul-le-mul_right (exprs_weight ds ks + 1) (some refl) in omega (arith, h, one, turns)
  member_light ks x false some h = let one = d_one x in omega (arith, h, one)

  mutual
    expr_light : (e : Expr) → expr_reads c d e ≤ expr_weight ds e
    expr_light (num p n) = omega arith
    expr_light (flag p b) = omega arith
    expr_light (read p x) = c_one x
    expr_light (count p x) = omega arith
    expr_light (index p x ks) = let a = exprs_light ks in let b = d_one x in omega (arith, a, b)
    expr_light (member p ks x) = member_light ks x (is_list ds x) (roomy x) (exprs_light ks)
    expr_light (negation p a) = let r = expr_light a in omega (arith, r)
    expr_light (inversion p a) = let r = expr_light a in omega (arith, r)
    expr_light (binary p o a b) = let x = expr_light a in let y = expr_light b in omega (arith, x, y)
    expr_light (cast p w a) = let r = expr_light a in omega (arith, r)

    exprs_light : (es : Exprs) → exprs_reads c d es ≤ exprs_weight ds es
    exprs_light none = omega arith
    exprs_light (more e es) = let x = expr_light e in let y = exprs_light es in omega (arith, x, y)

  mutual
    stmt_light : (s : Stmt) → stmt_reads ds c d s ≤ stmt_weight ds s
    stmt_light (assign p x e) = let r = expr_light e in omega (arith, r)
    stmt_light (cell p x i e) = let a = expr_light i in let b = expr_light e in omega (arith, a, b)
    stmt_light (push p x e) = let r = expr_light e in omega (arith, r)
    stmt_light (choice p t a b) = let x = expr_light t in let y = block_light a in let z = block_light b in omega (arith, x, y, z)
    stmt_light (loop p xs ls a) =
        let r : block_reads ds c d a ≤ block_weight ds a + 1 = (let k = block_light a in omega (arith, k)) in
        let turns = mul-le-mul_left (smallest ds ls) r in
        omega (arith, turns)
    stmt_light (reject p) = omega arith
    stmt_light (report p n es) = let r = exprs_light es in omega (arith, r)

    pub block_light : (ss : Stmts) → block_reads ds c d ss ≤ block_weight ds ss
    block_light done = omega arith
    block_light (next s ss) = let a = stmt_light s in let b = block_light ss in omega (arith, a, b)
