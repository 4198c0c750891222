-- The lexemes of statements.
use Rattle.std.specs.Prelude.{ℕ, List, [], ◌∷◌, ◌++◌, Option, Some, None}
use Rattle.lex_words.specs.Seen.{Lexeme, name, key}
use Rattle.lex_words.specs.declared.key.Key.TheVariants as k
use Rattle.p4_tree.specs.Tree.{Expr, Stmt, Stmts, MaybeStmt, nothing, block, var, assign, choice, return_, exit_, call, done, next, without, otherwise}
use Rattle.p4_tree.specs.declared.statement.PTy.{PTy}
use Rattle.p4_printer.specs.Layout.{braced}
use Rattle.p4_printer.specs.Expressions.{lexemes_of_type, lexemes_of_path, lexemes_of_expr, lexemes_of_args}

-- the lexemes of a variable's first value, where it has one
abbrev pub lexemes_of_start : Option Expr → List Lexeme
lexemes_of_start None = []
lexemes_of_start (Some e) = key k.Assign ∷ lexemes_of_expr e

-- the lexemes of a variable
abbrev pub lexemes_of_var : PTy → List ℕ → Option Expr → List Lexeme
lexemes_of_var ty x start = lexemes_of_type ty ++ name x ∷ (lexemes_of_start start ++ key k.Semicolon ∷ [])

abbrev mutual
  -- the lexemes of a statement
  pub lexemes_of_stmt : Stmt → List Lexeme
  lexemes_of_stmt (nothing p) = key k.Semicolon ∷ []
  lexemes_of_stmt (block p ss) = braced (lexemes_of_stmts ss)
  lexemes_of_stmt (var p ty x start) = lexemes_of_var ty x start
  lexemes_of_stmt (assign p target e) = lexemes_of_path target ++ key k.Assign ∷ (lexemes_of_expr e ++ key k.Semicolon ∷ [])
  lexemes_of_stmt (choice p e a b) = key k.If ∷ key k.Open ∷ (lexemes_of_expr e ++ key k.Close ∷ (lexemes_of_stmt a ++ lexemes_of_else b))
  lexemes_of_stmt (return_ p) = key k.Return ∷ key k.Semicolon ∷ []
  lexemes_of_stmt (exit_ p) = key k.Exit ∷ key k.Semicolon ∷ []
  lexemes_of_stmt (call p callee args) = lexemes_of_path callee ++ key k.Open ∷ (lexemes_of_args args ++ key k.Close ∷ key k.Semicolon ∷ [])

  -- the lexemes of what an `else` holds, where there is one
  pub lexemes_of_else : MaybeStmt → List Lexeme
  lexemes_of_else without = []
  lexemes_of_else (otherwise s) = key k.Else ∷ lexemes_of_stmt s

  -- the lexemes of statements
  pub lexemes_of_stmts : Stmts → List Lexeme
  lexemes_of_stmts done = []
  lexemes_of_stmts (next s ss) = lexemes_of_stmt s ++ lexemes_of_stmts ss
