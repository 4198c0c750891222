-- The places of expressions and statements rise.
use Rattle.std.proofs.Common.{ℕ, ◌+◌, ◌≤◌, Bool, List, [], ◌∷◌, ◌++◌, length, Option, arith}
use Rattle.std.proofs.lemmas.List.{length-append}
use Rattle.lex_words.specs.Seen.{Lexeme, name, number, key}
use Rattle.lex_words.specs.declared.key.Key.TheVariants as k
use Rattle.p4_tree.specs.Tree.{Expr, Arg, Stmt, Stmts}
use Rattle.p4_tree.specs.declared.statement.PTy.{PTy}
use Rattle.p4_spelling.specs.Words.{valid_name}
use Rattle.p4_spelling.specs.Operators.{top}
use Rattle.p4_spelling.specs.Expressions.{SpellsPostfix, a_number, a_true, a_false, an_error, a_path, a_validity, an_application, in_brackets, a_slice, Spells, a_postfix, a_not, an_inversion, an_opposite, a_cast, tighter, joined, a_conditional}
use Rattle.p4_spelling.specs.Statements.{SpellsStart, no_start, a_start, SpellsVar, a_var, SpellsConst, a_const, SpellsArg, an_expr, several, SpellsAssign, an_assign, SpellsStmt, a_semicolon, a_block, an_assignment, a_call, a_return, an_exit, an_if, an_if_else, SpellsBlock, in_braces, SpellsMany, no_more, then_var, then_stmt}
use Rattle.p4_spelling.specs.Rising.{MayRise, Rises, ArgRises, StmtRises, StmtsRise}
use Rattle.p4_spelling.proofs.Wider.{wide_each, wide_may, wider, wider_arg, wider_stmt, wider_stmts}
use Rattle.p4_spelling.proofs.Lengths.{path_long}
use Rattle.p4_spelling.proofs.ListsRise.{list_rises, some_rise}

-- ---- expressions

mutual
  postfix_rises : {p : ℕ} {t : Expr} {u : List Lexeme} → SpellsPostfix p t u → Rises p (p + length u) t
  postfix_rises (a_number n) = (omega arith, omega arith)
  postfix_rises a_true = (omega arith, omega arith)
  postfix_rises a_false = (omega arith, omega arith)
  postfix_rises (an_error x) = (omega arith, omega arith)
  postfix_rises (a_path s) = (omega arith, omega (arith, path_long s))
  postfix_rises (a_validity {u = u} s) = (omega arith, omega (arith, length-append u (key k.Dot ∷ name valid_name ∷ key k.Open ∷ key k.Close ∷ [])))
  postfix_rises (an_application t hit) = (omega arith, omega arith)
  postfix_rises {p = p} (in_brackets {a = a} {u = u} s) =
      wider a (p + 1) (p + 1 + length u) p (p + length (key k.Open ∷ (u ++ key k.Close ∷ []))) (omega arith) (omega (arith, length-append u (key k.Close ∷ []))) (rises s)
  postfix_rises {p = p} (a_slice {a = a} {u = u} high low h l s) = (
    omega arith,
    wider a p (p + length u) p (p + length (u ++ key k.SquareOpen ∷ number high ∷ key k.Colon ∷ number low ∷ key k.SquareClose ∷ [])) (omega arith)
        (omega (arith, length-append u (key k.SquareOpen ∷ number high ∷ key k.Colon ∷ number low ∷ key k.SquareClose ∷ []))) (postfix_rises s),
  )

  pub rises : {l p : ℕ} {t : Expr} {u : List Lexeme} → Spells l p t u → Rises p (p + length u) t
  rises (a_postfix s) = postfix_rises s
  rises {p = p} (a_not {a = a} {u = u} s) = (omega arith, wider a (p + 1) (p + 1 + length u) (p + 1) (p + length (key k.Not ∷ u)) (omega arith) (omega arith) (rises s))
  rises {p = p} (an_inversion {a = a} {u = u} s) = (omega arith, wider a (p + 1) (p + 1 + length u) (p + 1) (p + length (key k.Tilde ∷ u)) (omega arith) (omega arith) (rises s))
  rises {p = p} (an_opposite {a = a} {u = u} s) = (omega arith, wider a (p + 1) (p + 1 + length u) (p + 1) (p + length (key k.Minus ∷ u)) (omega arith) (omega arith) (rises s))
  rises {p = p} (a_cast {a = a} {u = u} {v = v} t s) = (
    omega arith,
    wider a (p + 1 + length u + 1) (p + 1 + length u + 1 + length v) (p + 1) (p + length (key k.Open ∷ (u ++ key k.Close ∷ v))) (omega arith) (omega (arith, length-append u (key k.Close ∷ v))) (rises s),
  )
  rises (tighter s) = rises s
  rises {p = p} (joined {a = a} {b = b} {u = u} {v = v} j op e s t) =
      (omega arith, (p + length u, rises s, wider b (p + length u + 1) (p + length u + 1 + length v) (p + length u + 1) (p + length (u ++ key j ∷ v)) (omega arith) (omega (arith, length-append u (key j ∷ v))) (rises t)))
  rises {p = p} (a_conditional {a = a} {b = b} {c = c} {u = u} {v = v} {w = w} s t r) = (
    omega arith,
    (
      p + length u,
      p + length u + 1 + length v,
      rises s,
      rises t,
      wider c (p + length u + 1 + length v + 1) (p + length u + 1 + length v + 1 + length w) (p + length u + 1 + length v + 1) (p + length (u ++ key k.Question ∷ (v ++ key k.Colon ∷ w))) (omega arith)
          (omega (arith, length-append u (key k.Question ∷ (v ++ key k.Colon ∷ w)), length-append v (key k.Colon ∷ w))) (rises r),
    ),
  )

pub exprs_rise : (p : ℕ) (e : Expr) (u : List Lexeme) → Spells top p e u → Rises p (p + length u) e
exprs_rise p e u s = rises s

-- ---- variables and constants

start_rises : {p : ℕ} {e : Option Expr} {u : List Lexeme} → SpellsStart p e u → MayRise Rises p (p + length u) e
start_rises no_start = omega arith
start_rises {p = p} (a_start {e = e} {u = u} s) = wider e (p + 1) (p + 1 + length u) p (p + length (key k.Assign ∷ u)) (omega arith) (omega arith) (rises s)

pub var_rises : {p : ℕ} {t : PTy} {x : List ℕ} {e : Option Expr} {u : List Lexeme} → SpellsVar p t x e u → MayRise Rises (p + 1) (p + length u) e
var_rises {p = p} (a_var {e = e} {u = u} {v = v} x t s) =
    wide_may Rises wider e (p + length u + 1) (p + length u + 1 + length v) (p + 1) (p + length (u ++ name x ∷ (v ++ key k.Semicolon ∷ []))) (omega arith)
    (omega (arith, length-append u (name x ∷ (v ++ key k.Semicolon ∷ [])), length-append v (key k.Semicolon ∷ []))) (start_rises s)

pub const_rises : {p : ℕ} {t : PTy} {x : List ℕ} {e : Expr} {u : List Lexeme} → SpellsConst p t x e u → Rises (p + 1) (p + length u) e
const_rises {p = p} (a_const {e = e} {u = u} {v = v} x t s) =
    wider e (p + 1 + length u + 1 + 1) (p + 1 + length u + 1 + 1 + length v) (p + 1) (p + length (key k.Const ∷ (u ++ name x ∷ key k.Assign ∷ (v ++ key k.Semicolon ∷ [])))) (omega arith)
    (omega (arith, length-append u (name x ∷ key k.Assign ∷ (v ++ key k.Semicolon ∷ [])), length-append v (key k.Semicolon ∷ []))) (rises s)

-- ---- statements

arg_rises : (p : ℕ) (a : Arg) (u : List Lexeme) → SpellsArg p a u → ArgRises p (p + length u) a
arg_rises p _ _ (an_expr s) = (omega arith, rises s)
arg_rises p _ _ (several {es = es} {u = u} s) = (
  omega arith,
  wide_each Rises wider es (p + 1) (p + 1 + length u) (p + 1) (p + length (key k.BraceOpen ∷ (u ++ key k.BraceClose ∷ []))) (omega arith) (omega (arith, length-append u (key k.BraceClose ∷ [])))
      (list_rises (Spells top) Rises wider exprs_rise s),
)

pub assign_rises : {p : ℕ} {s : Stmt} {u : List Lexeme} → SpellsAssign p s u → StmtRises p (p + length u) s
assign_rises {p = p} (an_assign {e = e} {u = u} {v = v} t s) = (
  omega arith,
  wider e (p + length u + 1) (p + length u + 1 + length v) (p + 1) (p + length (u ++ key k.Assign ∷ (v ++ key k.Semicolon ∷ []))) (omega arith)
      (omega (arith, length-append u (key k.Assign ∷ (v ++ key k.Semicolon ∷ [])), length-append v (key k.Semicolon ∷ []))) (rises s),
)

mutual
  stmt_rises : {closed : Bool} {p : ℕ} {t : Stmt} {u : List Lexeme} → SpellsStmt closed p t u → StmtRises p (p + length u) t
  stmt_rises a_semicolon = (omega arith, omega arith)
  stmt_rises (a_block s) = block_rises s
  stmt_rises (an_assignment s) = assign_rises s
  stmt_rises {p = p} (a_call {args = args} {u = u} {v = v} t s) = (
    omega arith,
    wide_each ArgRises wider_arg args (p + length u + 1) (p + length u + 1 + length v) (p + 1) (p + length (u ++ key k.Open ∷ (v ++ key k.Close ∷ key k.Semicolon ∷ []))) (omega arith)
        (omega (arith, length-append u (key k.Open ∷ (v ++ key k.Close ∷ key k.Semicolon ∷ [])), length-append v (key k.Close ∷ key k.Semicolon ∷ []))) (some_rise SpellsArg ArgRises wider_arg arg_rises s),
  )
  stmt_rises a_return = (omega arith, omega arith)
  stmt_rises an_exit = (omega arith, omega arith)
  stmt_rises {p = p} (an_if {e = e} {a = a} {u = u} {v = v} s t) = (
    omega arith,
    (
      p + 1 + 1 + length u,
      p + length (key k.If ∷ key k.Open ∷ (u ++ key k.Close ∷ v)),
      wider e (p + 1 + 1) (p + 1 + 1 + length u) (p + 1) (p + 1 + 1 + length u) (omega arith) (omega arith) (rises s),
      wider_stmt a (p + 1 + 1 + length u + 1) (p + 1 + 1 + length u + 1 + length v) (p + 1 + 1 + length u) (p + length (key k.If ∷ key k.Open ∷ (u ++ key k.Close ∷ v))) (omega arith)
          (omega (arith, length-append u (key k.Close ∷ v))) (stmt_rises t),
      omega arith,
    ),
  )
  stmt_rises {p = p} (an_if_else {e = e} {a = a} {b = b} {u = u} {v = v} {w = w} s t r) = (
    omega arith,
    (
      p + 1 + 1 + length u,
      p + 1 + 1 + length u + 1 + length v,
      wider e (p + 1 + 1) (p + 1 + 1 + length u) (p + 1) (p + 1 + 1 + length u) (omega arith) (omega arith) (rises s),
      wider_stmt a (p + 1 + 1 + length u + 1) (p + 1 + 1 + length u + 1 + length v) (p + 1 + 1 + length u) (p + 1 + 1 + length u + 1 + length v) (omega arith) (omega arith) (stmt_rises t),
      wider_stmt b (p + 1 + 1 + length u + 1 + length v + 1) (p + 1 + 1 + length u + 1 + length v + 1 + length w) (p + 1 + 1 + length u + 1 + length v) (p + length (key k.If ∷ key k.Open ∷ (u ++ key k.Close ∷ (v ++ key k.Else ∷ w)))) (omega arith)
          (omega (arith, length-append u (key k.Close ∷ (v ++ key k.Else ∷ w)), length-append v (key k.Else ∷ w))) (stmt_rises r),
    ),
  )

  block_rises : {p : ℕ} {ss : Stmts} {u : List Lexeme} → SpellsBlock p ss u → (p ≤ p) × StmtsRise (p + 1) (p + length u) ss
  block_rises {p = p} (in_braces {ss = ss} {u = u} s) = (
    omega arith,
    wider_stmts ss (p + 1) (p + 1 + length u) (p + 1) (p + length (key k.BraceOpen ∷ (u ++ key k.BraceClose ∷ []))) (omega arith) (omega (arith, length-append u (key k.BraceClose ∷ []))) (many_rise s),
  )

  many_rise : {p : ℕ} {ss : Stmts} {u : List Lexeme} → SpellsMany p ss u → StmtsRise p (p + length u) ss
  many_rise no_more = omega arith
  many_rise {p = p} (then_var {rest = rest} {u = u} {v = v} s t) =
      (p + length u, (omega arith, var_rises s), wider_stmts rest (p + length u) (p + length u + length v) (p + length u) (p + length (u ++ v)) (omega arith) (omega (arith, length-append u v)) (many_rise t))
  many_rise {p = p} (then_stmt {rest = rest} {u = u} {v = v} s t) =
      (p + length u, stmt_rises s, wider_stmts rest (p + length u) (p + length u + length v) (p + length u) (p + length (u ++ v)) (omega arith) (omega (arith, length-append u v)) (many_rise t))

pub body_rises : {p : ℕ} {ss : Stmts} {u : List Lexeme} → SpellsBlock p ss u → StmtsRise p (p + length u) ss
body_rises {p = p} {ss = ss} {u = u} s = wider_stmts ss (p + 1) (p + length u) p (p + length u) (omega arith) (omega arith) (let r = block_rises s in r.1)
