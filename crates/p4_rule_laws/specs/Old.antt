-- Trees of which each name that is looked up passes a test, and scopes that agree on such names. Read `Statements` of
-- `p4_statement_rules` before it and `OldPrograms` after it.
use Rattle.std.specs.Prelude.{◌≡◌, ℕ, List, [], ◌∷◌, Bool, true, Option, Some, None}
use Rattle.p4_tree.specs.Tree.{Expr, num, flag, path, valid, applied, error_name, negation, inversion, opposite, binary, conditional, slice, cast, Arg, one, many, Stmt, Stmts, MaybeStmt, nothing, block, var, assign, choice, return_, exit_, call, done, next, without, otherwise}
use Rattle.p4_tree.specs.declared.statement.PTy.{PTy}
use Rattle.p4_tree.specs.declared.statement.PTy.TheVariants as type
use Rattle.p4_scopes.specs.Scopes.{Scope, What, alias, fields, value, action, table, parser_state, part}
use Rattle.p4_scopes.specs.Scopes as scope

-- a test on names; those that pass are the old ones
abbrev pub Names : Type 0
Names = List ℕ → Bool

-- each name of a path is old
abbrev pub OldPath : Names → List (List ℕ) → Type 0
OldPath old [] = Unit {0}
OldPath old (x ∷ xs) = (old x ≡ true) × OldPath old xs

-- paths of old names stand for the same in two scopes
pub record Alike (old : Names) (s t : Scope) : Type 0 where
  pub same : (x : List (List ℕ)) → OldPath old x → s x ≡ t x

-- ---- types and declarations

abbrev pub OldType : Names → PTy → Type 0
OldType old (type.Bit w) = Unit {0}
OldType old type.Bool = Unit {0}
OldType old (type.Named t) = old t ≡ true

-- the types and the names of fields, and of an action's parameters
abbrev pub OldFields : Names → List (PTy × List ℕ) → Type 0
OldFields old [] = Unit {0}
OldFields old (f ∷ fs) = OldType old f.0 × (old f.1 ≡ true) × OldFields old fs

-- what is declared
abbrev pub OldWhat : Names → What → Type 0
OldWhat old (alias t) = OldType old t
OldWhat old (fields h fs) = OldFields old fs
OldWhat old (value a t) = OldType old t
OldWhat old (scope.register t) = OldType old t
OldWhat old (action ps m) = OldFields old ps
OldWhat old (table m) = Unit {0}
OldWhat old parser_state = Unit {0}
OldWhat old part = Unit {0}

-- ---- expressions: a cast's type and an error's name are in no scope

abbrev pub OldExpr : Names → Expr → Type 0
OldExpr old (num p n) = Unit {0}
OldExpr old (flag p b) = Unit {0}
OldExpr old (path p x) = OldPath old x
OldExpr old (valid p x) = OldPath old x
OldExpr old (applied p t h) = old t ≡ true
OldExpr old (error_name p x) = Unit {0}
OldExpr old (negation p a) = OldExpr old a
OldExpr old (inversion p a) = OldExpr old a
OldExpr old (opposite p a) = OldExpr old a
OldExpr old (binary p op a b) = OldExpr old a × OldExpr old b
OldExpr old (conditional p c a b) = OldExpr old c × OldExpr old a × OldExpr old b
OldExpr old (slice p a h l) = OldExpr old a
OldExpr old (cast p t a) = OldExpr old a

abbrev pub OldExprs : Names → List Expr → Type 0
OldExprs old [] = Unit {0}
OldExprs old (e ∷ es) = OldExpr old e × OldExprs old es

-- a first value, where there is one
abbrev pub OldStart : Names → Option Expr → Type 0
OldStart old None = Unit {0}
OldStart old (Some e) = OldExpr old e

abbrev pub OldArg : Names → Arg → Type 0
OldArg old (one p e) = OldExpr old e
OldArg old (many p es) = OldExprs old es

abbrev pub OldArgs : Names → List Arg → Type 0
OldArgs old [] = Unit {0}
OldArgs old (a ∷ args) = OldArg old a × OldArgs old args

-- ---- statements

abbrev mutual
  pub OldStmt : Names → Stmt → Type 0
  OldStmt old (nothing p) = Unit {0}
  OldStmt old (block p b) = OldStmts old b
  OldStmt old (var p t x e) = OldType old t × (old x ≡ true) × OldStart old e
  OldStmt old (assign p x e) = OldPath old x × OldExpr old e
  OldStmt old (choice p e a b) = OldExpr old e × OldStmt old a × OldElse old b
  OldStmt old (return_ p) = Unit {0}
  OldStmt old (exit_ p) = Unit {0}
  OldStmt old (call p x args) = OldPath old x × OldArgs old args

  pub OldStmts : Names → Stmts → Type 0
  OldStmts old done = Unit {0}
  OldStmts old (next c rest) = OldStmt old c × OldStmts old rest

  -- what an `else` holds
  pub OldElse : Names → MaybeStmt → Type 0
  OldElse old without = Unit {0}
  OldElse old (otherwise c) = OldStmt old c
