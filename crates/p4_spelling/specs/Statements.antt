-- Which lexemes spell a statement and a block.
use Rattle.std.specs.Prelude.{ℕ, ◌+◌, Bool, true, false, List, [], ◌∷◌, ◌++◌, length, Option, Some, None}
use Rattle.lex_words.specs.Seen.{Lexeme, name, key}
use Rattle.lex_words.specs.declared.key.Key.TheVariants.{If, Else, Return, Exit, Const, BraceOpen, BraceClose, Open, Close, Semicolon, Assign}
use Rattle.p4_tree.specs.Tree.{Expr, Arg, one, many, Stmt, Stmts, nothing, block, var, assign, choice, return_, exit_, call, done, next, without, otherwise}
use Rattle.p4_tree.specs.declared.statement.PTy.{PTy}
use Rattle.p4_spelling.specs.Operators.{top}
use Rattle.p4_spelling.specs.Lists.{SpellsList, SpellsSome}
use Rattle.p4_spelling.specs.Types.{SpellsType}
use Rattle.p4_spelling.specs.Expressions.{SpellsPath, Spells}

-- ---- variables and constants

-- `=` and an expression, or nothing
pub data SpellsStart : (p : ℕ) → Option Expr → List Lexeme → Type 0 where
  no_start : {p : ℕ} → SpellsStart p None []
  a_start : {p : ℕ} {e : Expr} {u : List Lexeme} → Spells top (p + 1) e u → SpellsStart p (Some e) (key Assign ∷ u)

-- a variable: its type, its name and perhaps its first value
pub data SpellsVar : (p : ℕ) → PTy → List ℕ → Option Expr → List Lexeme → Type 0 where
  a_var : {p : ℕ} {t : PTy} {e : Option Expr} {u v : List Lexeme} (x : List ℕ) → SpellsType t u → SpellsStart (p + length u + 1) e v → SpellsVar p t x e (u ++ name x ∷ (v ++ key Semicolon ∷ []))

-- a constant
pub data SpellsConst : (p : ℕ) → PTy → List ℕ → Expr → List Lexeme → Type 0 where
  a_const : {p : ℕ} {t : PTy} {e : Expr} {u v : List Lexeme} (x : List ℕ) → SpellsType t u → Spells top (p + 1 + length u + 1 + 1) e v
      → SpellsConst p t x e (key Const ∷ (u ++ name x ∷ key Assign ∷ (v ++ key Semicolon ∷ [])))

-- ---- statements

-- an argument: an expression, or several in braces
pub data SpellsArg : (p : ℕ) → Arg → List Lexeme → Type 0 where
  an_expr : {p : ℕ} {e : Expr} {u : List Lexeme} → Spells top p e u → SpellsArg p (one p e) u
  several : {p : ℕ} {es : List Expr} {u : List Lexeme} → SpellsList (Spells top) (p + 1) es u → SpellsArg p (many p es) (key BraceOpen ∷ (u ++ key BraceClose ∷ []))

-- an assignment
pub data SpellsAssign : (p : ℕ) → Stmt → List Lexeme → Type 0 where
  an_assign : {p : ℕ} {xs : List (List ℕ)} {e : Expr} {u v : List Lexeme} → SpellsPath xs u → Spells top (p + length u + 1) e v
      → SpellsAssign p (assign p xs e) (u ++ key Assign ∷ (v ++ key Semicolon ∷ []))

mutual
  -- From lexeme p on, the lexemes spell the statement. Where closed holds, an `else` behind it would not belong to it:
  -- an `else` belongs to the nearest `if` that has none.
  pub data SpellsStmt : (closed : Bool) (p : ℕ) → Stmt → List Lexeme → Type 0 where
    a_semicolon : {closed : Bool} {p : ℕ} → SpellsStmt closed p (nothing p) (key Semicolon ∷ [])
    a_block : {closed : Bool} {p : ℕ} {ss : Stmts} {u : List Lexeme} → SpellsBlock p ss u → SpellsStmt closed p (block p ss) u
    an_assignment : {closed : Bool} {p : ℕ} {s : Stmt} {u : List Lexeme} → SpellsAssign p s u → SpellsStmt closed p s u
    a_call : {closed : Bool} {p : ℕ} {xs : List (List ℕ)} {args : List Arg} {u v : List Lexeme} → SpellsPath xs u → SpellsSome SpellsArg (p + length u + 1) args v
        → SpellsStmt closed p (call p xs args) (u ++ key Open ∷ (v ++ key Close ∷ key Semicolon ∷ []))
    a_return : {closed : Bool} {p : ℕ} → SpellsStmt closed p (return_ p) (key Return ∷ key Semicolon ∷ [])
    an_exit : {closed : Bool} {p : ℕ} → SpellsStmt closed p (exit_ p) (key Exit ∷ key Semicolon ∷ [])
    an_if : {p : ℕ} {e : Expr} {a : Stmt} {u v : List Lexeme} → Spells top (p + 1 + 1) e u → SpellsStmt false (p + 1 + 1 + length u + 1) a v
        → SpellsStmt false p (choice p e a without) (key If ∷ key Open ∷ (u ++ key Close ∷ v))
    an_if_else : {closed : Bool} {p : ℕ} {e : Expr} {a b : Stmt} {u v w : List Lexeme} → Spells top (p + 1 + 1) e u → SpellsStmt true (p + 1 + 1 + length u + 1) a v
        → SpellsStmt closed (p + 1 + 1 + length u + 1 + length v + 1) b w
        → SpellsStmt closed p (choice p e a (otherwise b)) (key If ∷ key Open ∷ (u ++ key Close ∷ (v ++ key Else ∷ w)))

  -- declarations of variables and statements in braces
  pub data SpellsBlock : (p : ℕ) → Stmts → List Lexeme → Type 0 where
    in_braces : {p : ℕ} {ss : Stmts} {u : List Lexeme} → SpellsMany (p + 1) ss u → SpellsBlock p ss (key BraceOpen ∷ (u ++ key BraceClose ∷ []))

  -- what stands between the braces of a block
  pub data SpellsMany : (p : ℕ) → Stmts → List Lexeme → Type 0 where
    no_more : {p : ℕ} → SpellsMany p done []
    then_var : {p : ℕ} {t : PTy} {x : List ℕ} {e : Option Expr} {rest : Stmts} {u v : List Lexeme} → SpellsVar p t x e u → SpellsMany (p + length u) rest v
        → SpellsMany p (next (var p t x e) rest) (u ++ v)
    then_stmt : {p : ℕ} {s : Stmt} {rest : Stmts} {u v : List Lexeme} → SpellsStmt false p s u → SpellsMany (p + length u) rest v → SpellsMany p (next s rest) (u ++ v)
