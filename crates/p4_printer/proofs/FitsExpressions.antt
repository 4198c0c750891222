-- What is printed of expressions and statements fits, where they are low.
use Rattle.std.proofs.Common.{ℕ, ◌-◌, ◌≤◌, Bool, true, false, List, [], ◌∷◌, ◌++◌, map, Option, Some, None, refl, arith, inl, inr}
use Rattle.lex_text.specs.declared.token.Words.TheVariants.{P4}
use Rattle.lex_words.specs.declared.key.Key.TheVariants as k
use Rattle.lex_words.specs.Seen.{number, key}
use Rattle.lex_words.specs.Written.{IsLexeme}
use Rattle.p4_tree.specs.Tree.{Expr, num, flag, path, valid, applied, error_name, negation, inversion, opposite, binary, conditional, slice, cast, Arg, one, many, Stmt, Stmts, nothing, block, var, assign, choice, return_, exit_, call, done, next, without, otherwise}
use Rattle.p4_tree.specs.Height.{highest, height_if, expr_height, arg_height, stmt_height, stmts_height}
use Rattle.p4_tree.specs.declared.statement.PTy.{PTy}
use Rattle.p4_tree.specs.declared.statement.PTy.TheVariants as type
use Rattle.p4_printer.specs.Layout.{bare, each_after}
use Rattle.p4_printer.specs.Expressions.{lexemes_of_type, lexemes_of_name, lexemes_of_path, lexemes_of_expr, lexemes_of_exprs, lexemes_of_arg, lexemes_of_args}
use Rattle.p4_printer.specs.Statements.{lexemes_of_start, lexemes_of_var, lexemes_of_stmt, lexemes_of_stmts}
use Rattle.p4_printer.specs.Programs.{lexemes_of_constant}
use Rattle.p4_printer.specs.CanSpell.{IsName, EachCan, MayCan, CanSpellScalar, CanSpellType, CanSpellPath, CanSpellExpr, CanSpellArg, CanSpellVar, CanSpellConst, CanSpellStmt, CanSpellStmts, IsVar}
use Rattle.p4_printer.proofs.Fits.{Fits, nil, joins, on, on_name, on_number, bracket, outcome_is_name, with_heights, each_of, fits_list, the_op, the_flag, the_Bit, the_Bool, the_If, the_Else, the_Const, the_Return, the_Exit, the_Error, the_BraceOpen, the_BraceClose, the_SquareOpen, the_SquareClose, the_Less, the_More, the_Semicolon, the_Colon, the_Dot, the_Assign, the_Minus, the_Tilde, the_Not, the_Question}

-- ---- types and paths

pub small : (n : ℕ) → n ≤ 255 → IsLexeme P4 (number (bare n))
small n low = (omega arith, omega (arith, low))

pub fits_type : (m : ℕ) (t : PTy) → CanSpellType t → Fits m (lexemes_of_type t)
fits_type m (type.Bit w) c = on the_Bit (on the_Less (on_number (small w c) (on the_More nil)))
fits_type m type.Bool c = on the_Bool nil
fits_type m (type.Named x) c = on_name c nil

fits_scalar : (m : ℕ) (t : PTy) → CanSpellScalar t → Fits m (lexemes_of_type t)
fits_scalar m (type.Bit w) c = on the_Bit (on the_Less (on_number (small w c) (on the_More nil)))
fits_scalar m type.Bool c = on the_Bool nil
fits_scalar m (type.Named x) c = absurd c

fits_names : (m : ℕ) (xs : List (List ℕ)) → EachCan IsName xs → Fits m (each_after (key k.Dot) (map lexemes_of_name xs))
fits_names m [] c = nil
fits_names m (x ∷ rest) c = on the_Dot (on_name c.0 (fits_names m rest c.1))

pub fits_path : (m : ℕ) (xs : List (List ℕ)) → CanSpellPath xs → Fits m (lexemes_of_path xs)
fits_path m [] c = absurd c
fits_path m (x ∷ rest) c = on_name c.0 (fits_names m rest c.1)

-- ---- expressions

tall : (t : Expr) → 1 ≤ expr_height t
tall (num p n) = omega arith
tall (flag p b) = omega arith
tall (path p xs) = omega arith
tall (valid p xs) = omega arith
tall (applied p x hit) = omega arith
tall (error_name p x) = omega arith
tall (negation p a) = omega arith
tall (inversion p a) = omega arith
tall (opposite p a) = omega arith
tall (binary p op a b) = omega arith
tall (conditional p t a b) = omega arith
tall (slice p a high low) = omega arith
tall (cast p t a) = omega arith

pub fits : (t : Expr) → CanSpellExpr t → (m : ℕ) → expr_height t ≤ m → Fits m (lexemes_of_expr t)
fits (num p n) c m low = on_number c nil
fits (flag p b) c m low = on (the_flag b) nil
fits (path p xs) c m low = fits_path m xs c
fits (valid p xs) c m low = joins (fits_path m xs c) (on the_Dot (on_name (refl, refl) (bracket m low nil nil)))
fits (applied p x hit) c m low = on_name c (on the_Dot (on_name (refl, refl) (bracket m low nil (on the_Dot (on_name (outcome_is_name hit) nil)))))
fits (error_name p x) c m low = on the_Error (on the_Dot (on_name c nil))
fits (negation p a) c m low = bracket m (omega (arith, low)) (on the_Not (fits a c (m - 1) (omega (arith, low)))) nil
fits (inversion p a) c m low = bracket m (omega (arith, low)) (on the_Tilde (fits a c (m - 1) (omega (arith, low)))) nil
fits (opposite p a) c m low = bracket m (omega (arith, low)) (on the_Minus (fits a c (m - 1) (omega (arith, low)))) nil
fits (binary p o a b) c m low = bracket m (omega (arith, low)) (joins (fits a c.0 (m - 1) (omega (arith, low))) (on (the_op o) (fits b c.1 (m - 1) (omega (arith, low))))) nil
fits (conditional p t a b) c m low =
    bracket m (omega (arith, low)) (joins (fits t c.0 (m - 1) (omega (arith, low))) (on the_Question (joins (fits a c.1 (m - 1) (omega (arith, low))) (on the_Colon (fits b c.2 (m - 1) (omega (arith, low))))))) nil
fits (slice p a high bottom) c m low = joins (fits a c.0 m (omega (arith, low))) (on the_SquareOpen (on_number (small high c.1) (on the_Colon (on_number (small bottom c.2) (on the_SquareClose nil)))))
fits (cast p t a) c m low = bracket m (omega (arith, low)) (bracket (m - 1) (omega (arith, low, tall a)) (fits_scalar (m - 1 - 1) t c.0) (fits a c.1 (m - 1) (omega (arith, low)))) nil

pub fits_exprs : (m : ℕ) (es : List Expr) → EachCan CanSpellExpr es → highest expr_height es ≤ m → Fits m (lexemes_of_exprs es)
fits_exprs m es c low = fits_list m (λ e. CanSpellExpr e × (expr_height e ≤ m)) lexemes_of_expr (λ e i. fits e i.0 m i.1) es (with_heights CanSpellExpr expr_height m es c low)

-- ---- variables, constants and arguments

fits_start : (m : ℕ) (e : Option Expr) → MayCan CanSpellExpr e → height_if expr_height e ≤ m → Fits m (lexemes_of_start e)
fits_start m None c low = nil
fits_start m (Some e) c low = on the_Assign (fits e c m low)

pub fits_var : (m : ℕ) (t : PTy) (x : List ℕ) (e : Option Expr) → CanSpellVar t x e → height_if expr_height e ≤ m → Fits m (lexemes_of_var t x e)
fits_var m t x e c low = joins (fits_type m t c.0) (on_name c.1 (joins (fits_start m e c.2 low) (on the_Semicolon nil)))

pub fits_const : (m : ℕ) (t : PTy) (x : List ℕ) (e : Expr) → CanSpellConst t x e → expr_height e ≤ m → Fits m (lexemes_of_constant t x e)
fits_const m t x e c low = on the_Const (joins (fits_type m t c.0) (on_name c.1 (on the_Assign (joins (fits e c.2 m low) (on the_Semicolon nil)))))

fits_arg : (m : ℕ) (a : Arg) → CanSpellArg a → arg_height a ≤ m → Fits m (lexemes_of_arg a)
fits_arg m (one p e) c low = fits e c m (omega (arith, low))
fits_arg m (many p es) c low = on the_BraceOpen (joins (fits_exprs m es (each_of CanSpellExpr es c) (omega (arith, low))) (on the_BraceClose nil))

pub fits_args : (m : ℕ) (as' : List Arg) → EachCan CanSpellArg as' → highest arg_height as' ≤ m → Fits m (lexemes_of_args as')
fits_args m as' c low = fits_list m (λ a. CanSpellArg a × (arg_height a ≤ m)) lexemes_of_arg (λ a i. fits_arg m a i.0 i.1) as' (with_heights CanSpellArg arg_height m as' c low)

-- ---- statements

pub fits_assign : (m : ℕ) (p : ℕ) (xs : List (List ℕ)) (e : Expr) → CanSpellPath xs → CanSpellExpr e → expr_height e ≤ m → Fits m (lexemes_of_stmt (assign p xs e))
fits_assign m p xs e c d low = joins (fits_path m xs c) (on the_Assign (joins (fits e d m low) (on the_Semicolon nil)))

with_var : (m : ℕ) (s : Stmt) → IsVar s → stmt_height s ≤ m → Fits m (lexemes_of_stmt s)
with_var m (var p t x e) c low = fits_var m t x e c (omega (arith, low))
with_var m _ c low = absurd c

mutual
  pub fits_stmt : (closed : Bool) (s : Stmt) → CanSpellStmt closed s → (m : ℕ) → stmt_height s ≤ m → Fits m (lexemes_of_stmt s)
  fits_stmt closed (nothing p) c m low = on the_Semicolon nil
  fits_stmt closed (block p ss) c m low = on the_BraceOpen (joins (fits_stmts ss c m (omega (arith, low))) (on the_BraceClose nil))
  fits_stmt closed (var p t x e) c m low = absurd c
  fits_stmt closed (assign p xs e) c m low = fits_assign m p xs e c.0 c.1 (omega (arith, low))
  fits_stmt closed (choice p e a without) c m low =
      on the_If (bracket m (omega (arith, low)) (fits e c.0 (m - 1) (omega (arith, low))) (joins (fits_stmt false a c.1 m (omega (arith, low))) nil))
  fits_stmt closed (choice p e a (otherwise b)) c m low =
      on the_If (bracket m (omega (arith, low)) (fits e c.0 (m - 1) (omega (arith, low))) (joins (fits_stmt true a c.1 m (omega (arith, low))) (on the_Else (fits_stmt closed b c.2 m (omega (arith, low))))))
  fits_stmt closed (return_ p) c m low = on the_Return (on the_Semicolon nil)
  fits_stmt closed (exit_ p) c m low = on the_Exit (on the_Semicolon nil)
  fits_stmt closed (call p xs args) c m low = joins (fits_path m xs c.0) (bracket m (omega (arith, low)) (fits_args (m - 1) args c.1 (omega (arith, low))) (on the_Semicolon nil))

  pub fits_stmts : (ss : Stmts) → CanSpellStmts ss → (m : ℕ) → stmts_height ss ≤ m → Fits m (lexemes_of_stmts ss)
  fits_stmts done c m low = nil
  fits_stmts (next s ss) c m low =
      joins (elim c.0 [ inl i ↦ fits_stmt false s i m (omega (arith, low)) | inr i ↦ with_var m s i (omega (arith, low)) ]) (fits_stmts ss c.1 m (omega (arith, low)))

pub fits_block : (ss : Stmts) → CanSpellStmts ss → (m : ℕ) → stmts_height ss ≤ m → Fits m (key k.BraceOpen ∷ (lexemes_of_stmts ss ++ key k.BraceClose ∷ []))
fits_block ss c m low = on the_BraceOpen (joins (fits_stmts ss c m low) (on the_BraceClose nil))
