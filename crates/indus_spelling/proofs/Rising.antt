-- A spelled tree's places rise, by recursion on what spells it.
use Rattle.std.proofs.Common.{ℕ, ◌+◌, ◌≤◌, List, [], ◌∷◌, ◌++◌, length, Option, Some, None, refl, arith}
use Rattle.std.proofs.lemmas.List.{length-append}
use Rattle.lex_words.specs.Seen.{Lexeme, name, number, key}
use Rattle.lex_words.specs.declared.key.Key.TheVariants as k
use Rattle.indus_tree.specs.Tree.{Expr, Exprs, num, flag, read, count, index, member, negation, inversion, binary, cast, none, more, Stmt, Stmts, assign, cell, push, choice, loop, reject, report, done, next, Decl}
use Rattle.indus_spelling.specs.Expressions.{Spells, SpellsAll, a_number, a_true, a_false, a_name, an_index, a_length, a_not, an_inversion, a_cast, in_brackets, tighter, joined, a_member, a_tuple, last, then}
use Rattle.indus_spelling.specs.Declarations as d
use Rattle.indus_spelling.specs.Declarations.{SpellsValue, SpellsStart, no_start, a_start, SpellsDecl, a_tele, a_sensor, a_header, a_control, SpellsDecls, no_decl, a_decl}
use Rattle.indus_spelling.specs.Properties.{SpellsSome, no_value, values, SpellsStmt, SpellsIfs, SpellsElse, SpellsBlock, SpellsMany, an_assign, a_cell, a_push, an_ifs, a_loop, a_reject, a_report, an_if, no_else, else_block, else_if, in_braces, no_more, one_more, push_name, a_property}
use Rattle.indus_spelling.specs.Rising.{Rises, AllRise, StmtRises, BlockRises, StartRises, DeclsRise, PlacesRise}

-- ---- the bounds may be wider

mutual
  wider : (e : Expr) (p q p' q' : ℕ) → p' ≤ p → q ≤ q' → Rises p q e → Rises p' q' e
  wider (num r n) p q p' q' a b x = (omega (arith, x.0), omega (arith, x.1))
  wider (flag r n) p q p' q' a b x = (omega (arith, x.0), omega (arith, x.1))
  wider (read r n) p q p' q' a b x = (omega (arith, x.0), omega (arith, x.1))
  wider (count r n) p q p' q' a b x = (omega (arith, x.0), omega (arith, x.1))
  wider (index r s es) p q p' q' a b x = (omega (arith, x.0), wider_all es (r + 1) q (r + 1) q' (omega arith) b x.1)
  wider (member r es s) p q p' q' a b x = (omega (arith, x.0), wider_all es r q r q' (omega arith) b x.1)
  wider (negation r e) p q p' q' a b x = (omega (arith, x.0), wider e (r + 1) q (r + 1) q' (omega arith) b x.1)
  wider (inversion r e) p q p' q' a b x = (omega (arith, x.0), wider e (r + 1) q (r + 1) q' (omega arith) b x.1)
  wider (binary r op e f) p q p' q' a b x = (omega (arith, x.0), (x.1.0, x.1.1, wider f (x.1.0 + 1) q (x.1.0 + 1) q' (omega arith) b x.1.2))
  wider (cast r w e) p q p' q' a b x = (omega (arith, x.0), wider e (r + 1) q (r + 1) q' (omega arith) b x.1)

  wider_all : (es : Exprs) (p q p' q' : ℕ) → p' ≤ p → q ≤ q' → AllRise p q es → AllRise p' q' es
  wider_all none p q p' q' a b x = omega (arith, x)
  wider_all (more e es) p q p' q' a b x = (x.0, wider e p x.0 p' x.0 a (omega arith) x.1, wider_all es x.0 q x.0 q' (omega arith) b x.2)

mutual
  wider_stmt : (s : Stmt) (p q p' q' : ℕ) → p' ≤ p → q ≤ q' → StmtRises p q s → StmtRises p' q' s
  wider_stmt (assign r s e) p q p' q' a b x = (omega (arith, x.0), wider e (r + 1) q (r + 1) q' (omega arith) b x.1)
  wider_stmt (cell r s i e) p q p' q' a b x = (omega (arith, x.0), (x.1.0, x.1.1, wider e x.1.0 q x.1.0 q' (omega arith) b x.1.2))
  wider_stmt (push r s e) p q p' q' a b x = (omega (arith, x.0), wider e (r + 1) q (r + 1) q' (omega arith) b x.1)
  wider_stmt (choice r e ys zs) p q p' q' a b x = (omega (arith, x.0), (x.1.0, x.1.1, x.1.2, x.1.3, wider_block zs x.1.1 q x.1.1 q' (omega arith) b x.1.4))
  wider_stmt (loop r xs ls ss) p q p' q' a b x = (omega (arith, x.0), wider_block ss (r + 1) q (r + 1) q' (omega arith) b x.1)
  wider_stmt (reject r) p q p' q' a b x = (omega (arith, x.0), omega (arith, x.1))
  wider_stmt (report r n es) p q p' q' a b x = (omega (arith, x.0), wider_all es (r + 1) q (r + 1) q' (omega arith) b x.1)

  wider_block : (ss : Stmts) (p q p' q' : ℕ) → p' ≤ p → q ≤ q' → BlockRises p q ss → BlockRises p' q' ss
  wider_block done p q p' q' a b x = omega (arith, x)
  wider_block (next s ss) p q p' q' a b x = (x.0, wider_stmt s p x.0 p' x.0 a (omega arith) x.1, wider_block ss x.0 q x.0 q' (omega arith) b x.2)

-- ---- expressions

mutual
  rises : {l p : ℕ} {t : Expr} {u : List Lexeme} → Spells l p t u → Rises p (p + length u) t
  rises (a_number n) = (omega arith, omega arith)
  rises a_true = (omega arith, omega arith)
  rises a_false = (omega arith, omega arith)
  rises (a_name s) = (omega arith, omega arith)
  rises {p = p} (an_index s {ks = ks} {u = u} all) =
      (omega arith, wider_all ks (p + 1 + 1) (p + 1 + 1 + length u) (p + 1) (p + length (name s ∷ key k.SquareOpen ∷ (u ++ key k.SquareClose ∷ []))) (omega arith) (omega (arith, length-append u (key k.SquareClose ∷ []))) (rises_all all))
  rises (a_length s) = (omega arith, omega arith)
  rises {p = p} (a_not {a = a} {u = u} s) = (omega arith, wider a (p + 1) (p + 1 + length u) (p + 1) (p + length (key k.Not ∷ u)) (omega arith) (omega arith) (rises s))
  rises {p = p} (an_inversion {a = a} {u = u} s) = (omega arith, wider a (p + 1) (p + 1 + length u) (p + 1) (p + length (key k.Tilde ∷ u)) (omega arith) (omega arith) (rises s))
  rises {p = p} (a_cast n {a = a} {u = u} small s) =
      (omega arith, wider a (p + 1 + 1 + 1 + 1 + 1 + 1) (p + 1 + 1 + 1 + 1 + 1 + 1 + length u) (p + 1) (p + length (key k.Open ∷ key k.Bit ∷ key k.Less ∷ number n ∷ key k.More ∷ key k.Close ∷ u)) (omega arith) (omega arith) (rises s))
  rises {p = p} (in_brackets {a = a} {u = u} s) =
      wider a (p + 1) (p + 1 + length u) p (p + length (key k.Open ∷ (u ++ key k.Close ∷ []))) (omega arith) (omega (arith, length-append u (key k.Close ∷ []))) (rises s)
  rises (tighter s) = rises s
  rises {p = p} (joined {a = a} {b = b} {u = u} {v = v} j op e s t) =
      (omega arith, (p + length u, rises s, wider b (p + length u + 1) (p + length u + 1 + length v) (p + length u + 1) (p + length (u ++ key j ∷ v)) (omega arith) (omega (arith, length-append u (key j ∷ v))) (rises t)))
  rises {p = p} (a_member s {a = a} {u = u} t) = (omega arith, (p + length u, rises t, omega (arith, length-append u (key k.In ∷ name s ∷ []))))
  rises {p = p} (a_tuple s {a = a} {b = b} {ks = ks} {u = u} all) =
      (omega arith, wider_all (more a (more b ks)) (p + 1) (p + 1 + length u) p (p + length (key k.Open ∷ (u ++ key k.Close ∷ key k.In ∷ name s ∷ []))) (omega arith) (omega (arith, length-append u (key k.Close ∷ key k.In ∷ name s ∷ []))) (rises_all all))

  rises_all : {p : ℕ} {es : Exprs} {u : List Lexeme} → SpellsAll p es u → AllRise p (p + length u) es
  rises_all {p = p} (last {u = u} s) = (p + length u, rises s, omega arith)
  rises_all {p = p} (then {a = a} {rest = es} {u = u} {v = v} s t) =
      (p + length u, rises s, wider_all es (p + length u + 1) (p + length u + 1 + length v) (p + length u) (p + length (u ++ key k.Comma ∷ v)) (omega arith) (omega (arith, length-append u (key k.Comma ∷ v))) (rises_all t))

-- ---- statements

some_rise : {p : ℕ} {es : Exprs} {u : List Lexeme} → SpellsSome p es u → AllRise p (p + length u) es
some_rise no_value = omega arith
some_rise (values all) = rises_all all

mutual
  stmt_rises : {p r : ℕ} {t : Stmt} {u : List Lexeme} → SpellsStmt p r t u → StmtRises p (p + length u) t
  stmt_rises {p = p} (an_assign s {e = e} {u = u} t) =
      (omega arith, wider e (p + 1 + 1) (p + 1 + 1 + length u) (p + 1) (p + length (name s ∷ key k.Assign ∷ (u ++ key k.Semicolon ∷ []))) (omega arith) (omega (arith, length-append u (key k.Semicolon ∷ []))) (rises t))
  stmt_rises {p = p} (a_cell s {i = i} {e = e} {u = u} {v = v} t w) = (
    omega arith,
    (
      p + 1 + 1 + length u,
      wider i (p + 1 + 1) (p + 1 + 1 + length u) (p + 1) (p + 1 + 1 + length u) (omega arith) (omega arith) (rises t),
      wider e (p + 1 + 1 + length u + 1 + 1) (p + 1 + 1 + length u + 1 + 1 + length v) (p + 1 + 1 + length u) (p + length (name s ∷ key k.SquareOpen ∷ (u ++ key k.SquareClose ∷ key k.Assign ∷ (v ++ key k.Semicolon ∷ [])))) (omega arith)
          (omega (arith, length-append u (key k.SquareClose ∷ key k.Assign ∷ (v ++ key k.Semicolon ∷ [])), length-append v (key k.Semicolon ∷ []))) (rises w),
    ),
  )
  stmt_rises {p = p} (a_push s {e = e} {u = u} t) =
      (omega arith, wider e (p + 1 + 1 + 1 + 1) (p + 1 + 1 + 1 + 1 + length u) (p + 1) (p + length (name s ∷ key k.Dot ∷ name push_name ∷ key k.Open ∷ (u ++ key k.Close ∷ key k.Semicolon ∷ []))) (omega arith) (omega (arith, length-append u (key k.Close ∷ key k.Semicolon ∷ []))) (rises t))
  stmt_rises (an_ifs t) = ifs_rises t
  stmt_rises {p = p} (a_loop {ss = ss} {u = u} {v = v} {w = w} xs ls t) = (
    omega arith,
    wider_block ss (p + 1 + 1 + length u + 1 + length v + 1) (p + 1 + 1 + length u + 1 + length v + 1 + length w) (p + 1) (p + length (key k.For ∷ key k.Open ∷ (u ++ key k.In ∷ (v ++ key k.Close ∷ w)))) (omega arith)
        (omega (arith, length-append u (key k.In ∷ (v ++ key k.Close ∷ w)), length-append v (key k.Close ∷ w))) (block_rises t),
  )
  stmt_rises a_reject = (omega arith, omega arith)
  stmt_rises {p = p} (a_report {es = es} {u = u} t) =
      (omega arith, wider_all es (p + 1 + 1) (p + 1 + 1 + length u) (p + 1) (p + length (key k.Report ∷ key k.Open ∷ (u ++ key k.Close ∷ key k.Semicolon ∷ []))) (omega arith) (omega (arith, length-append u (key k.Close ∷ key k.Semicolon ∷ []))) (some_rise t))

  ifs_rises : {p r : ℕ} {t : Stmt} {u : List Lexeme} → SpellsIfs p r t u → StmtRises p (p + length u) t
  ifs_rises {p = p} (an_if {e = e} {ys = ys} {zs = zs} {u = u} {v = v} {w = w} t y z) = (
    omega arith,
    (
      p + 1 + 1 + length u,
      p + 1 + 1 + length u + 1 + length v,
      wider e (p + 1 + 1) (p + 1 + 1 + length u) (p + 1) (p + 1 + 1 + length u) (omega arith) (omega arith) (rises t),
      wider_block ys (p + 1 + 1 + length u + 1) (p + 1 + 1 + length u + 1 + length v) (p + 1 + 1 + length u) (p + 1 + 1 + length u + 1 + length v) (omega arith) (omega arith) (block_rises y),
      wider_block zs (p + 1 + 1 + length u + 1 + length v) (p + 1 + 1 + length u + 1 + length v + length w) (p + 1 + 1 + length u + 1 + length v) (p + length (key k.If ∷ key k.Open ∷ (u ++ key k.Close ∷ (v ++ w)))) (omega arith)
          (omega (arith, length-append u (key k.Close ∷ (v ++ w)), length-append v w)) (else_rises z),
    ),
  )

  else_rises : {p r : ℕ} {t : Stmts} {u : List Lexeme} → SpellsElse p r t u → BlockRises p (p + length u) t
  else_rises no_else = omega arith
  else_rises {p = p} (else_block {ss = ss} {u = u} t) = wider_block ss (p + 1) (p + 1 + length u) p (p + length (key k.Else ∷ u)) (omega arith) (omega arith) (block_rises t)
  else_rises {p = p} (else_if {c = c} {u = u} t) = (p + length (key k.Else ∷ u), wider_stmt c (p + 1) (p + 1 + length u) p (p + length (key k.Else ∷ u)) (omega arith) (omega arith) (ifs_rises t), omega arith)

  block_rises : {p r : ℕ} {t : Stmts} {u : List Lexeme} → SpellsBlock p r t u → BlockRises p (p + length u) t
  block_rises {p = p} (in_braces {ss = ss} {u = u} t) =
      wider_block ss (p + 1) (p + 1 + length u) p (p + length (key k.BraceOpen ∷ (u ++ key k.BraceClose ∷ []))) (omega arith) (omega (arith, length-append u (key k.BraceClose ∷ []))) (many_rise t)

  many_rise : {p r : ℕ} {t : Stmts} {u : List Lexeme} → SpellsMany p r t u → BlockRises p (p + length u) t
  many_rise no_more = omega arith
  many_rise {p = p} (one_more {rest = rest} {u = u} {v = v} t w) =
      (p + length u, stmt_rises t, wider_block rest (p + length u) (p + length u + length v) (p + length u) (p + length (u ++ v)) (omega arith) (omega (arith, length-append u v)) (many_rise w))

-- ---- declarations

value_rises : {p : ℕ} {e : Expr} {u : List Lexeme} → SpellsValue p e u → Rises p (p + length u) e
value_rises (d.a_number n) = (omega arith, omega arith)
value_rises d.a_true = (omega arith, omega arith)
value_rises d.a_false = (omega arith, omega arith)

wider_start : (e : Option Expr) (p q p' q' : ℕ) → p' ≤ p → q ≤ q' → StartRises p q e → StartRises p' q' e
wider_start None p q p' q' a b x = omega (arith, x)
wider_start (Some e) p q p' q' a b x = wider e p q p' q' a b x

start_rises : {p : ℕ} {e : Option Expr} {u : List Lexeme} → SpellsStart p e u → StartRises p (p + length u) e
start_rises no_start = omega arith
start_rises {p = p} (a_start {e = e} {u = u} s) = wider e (p + 1) (p + 1 + length u) p (p + length (key k.Assign ∷ u)) (omega arith) (omega arith) (value_rises s)

decl_rises : {p : ℕ} {t : Decl} {u : List Lexeme} → SpellsDecl p t u → (p ≤ t.at) × StartRises (t.at + 1) (p + length u) t.start
decl_rises {p = p} (a_tele x {u = u} s) = (omega arith, omega (arith, length-append u (name x ∷ key k.Semicolon ∷ [])))
decl_rises {p = p} (a_sensor x {e = e} {u = u} {v = v} s t) = (
  omega arith,
  wider_start e (p + 1 + length u + 1) (p + 1 + length u + 1 + length v) (p + 1) (p + length (key k.Sensor ∷ (u ++ name x ∷ (v ++ key k.Semicolon ∷ [])))) (omega arith)
      (omega (arith, length-append u (name x ∷ (v ++ key k.Semicolon ∷ [])), length-append v (key k.Semicolon ∷ []))) (start_rises t),
)
decl_rises {p = p} (a_header x {u = u} {v = v} s t) = (omega arith, omega (arith, length-append u (name x ∷ key k.Assign ∷ (v ++ key k.Semicolon ∷ []))))
decl_rises {p = p} (a_control x {u = u} s) = (omega arith, omega (arith, length-append u (name x ∷ key k.Semicolon ∷ [])))

wider_decls : (ds : List Decl) (p q p' q' : ℕ) → p' ≤ p → q ≤ q' → DeclsRise p q ds → DeclsRise p' q' ds
wider_decls [] p q p' q' a b x = omega (arith, x)
wider_decls (t ∷ ds) p q p' q' a b x = (x.0, omega (arith, x.1), x.2, wider_decls ds x.0 q x.0 q' (omega arith) b x.3)

decls_rise : {p : ℕ} {ds : List Decl} {u : List Lexeme} → SpellsDecls p ds u → DeclsRise p (p + length u) ds
decls_rise no_decl = omega arith
decls_rise {p = p} (a_decl {ds = ds} {u = u} {v = v} t w) =
    let r = decl_rises t in
    (p + length u, r.0, r.1, wider_decls ds (p + length u) (p + length u + length v) (p + length u) (p + length (u ++ v)) (omega arith) (omega (arith, length-append u v)) (decls_rise w))

-- ---- properties

pub places_rise : PlacesRise
places_rise t ws (a_property {ds = list} {c = c} {r = r} {s = s} {u = u} {v = v} {w = w} e ds x y z) =
    let i = length r + length s in
    let j = i + length u in
    let k = j + length v in
    let all = length (r ++ (s ++ (u ++ (v ++ w)))) in
    record {
      at = refl;
      init_from = i;
      tele_from = j;
      check_from = k;
      decls = wider_decls list (length r) i 0 i (omega arith) (omega arith) (decls_rise ds);
      init = block_rises x;
      tele = block_rises y;
      check = wider_block c k (k + length w) k all (omega arith) (omega (arith, length-append r (s ++ (u ++ (v ++ w))), length-append s (u ++ (v ++ w)), length-append u (v ++ w), length-append v w)) (block_rises z);
    }
