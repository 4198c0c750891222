-- What declarations leave in sight, and declarations of names that are not old. Read `OldPrograms` before it.
use Rattle.std.specs.Prelude.{◌≡◌, ℕ, List, [], ◌∷◌, true, false}
use Rattle.p4_tree.specs.Tree.{Stmt, Stmts, MaybeStmt, nothing, block, var, assign, choice, return_, exit_, call, done, next, without, otherwise, ParserState, Local, local_action, local_table, local_register, local_const, local_var, Top}
use Rattle.p4_tree.specs.declared.statement.PTy.{PTy}
use Rattle.p4_scopes.specs.Scopes.{Scope, is_missing}
use Rattle.p4_statement_rules.specs.Statements.{after}
use Rattle.p4_declaration_rules.specs.Firsts.{top_name}
use Rattle.p4_rule_laws.specs.Old.{Names}

-- a name that stands for something in the first scope stands for the same in the second, and so do the paths behind it
pub record Keeps (s t : Scope) : Type 0 where
  pub kept : (x : List ℕ) (xs : List (List ℕ)) → is_missing (s (x ∷ [])) ≡ false → t (x ∷ xs) ≡ s (x ∷ xs)

-- ---- what is declared

abbrev pub local_name : Local → List ℕ
local_name (local_action p a) = a.name
local_name (local_table p t) = t.name
local_name (local_register p r) = r.name
local_name (local_const p t x e) = x
local_name (local_var p t x e) = x

-- ---- no name that is declared is old

abbrev pub NewTops : Names → List Top → Type 0
NewTops old [] = Unit {0}
NewTops old (t ∷ ts) = (old (top_name t) ≡ false) × NewTops old ts

abbrev pub NewLocals : Names → List Local → Type 0
NewLocals old [] = Unit {0}
NewLocals old (l ∷ ls) = (old (local_name l) ≡ false) × NewLocals old ls

abbrev pub NewStates : Names → List ParserState → Type 0
NewStates old [] = Unit {0}
NewStates old (st ∷ sts) = (old st.name ≡ false) × NewStates old sts

abbrev pub NewFields : Names → List (PTy × List ℕ) → Type 0
NewFields old [] = Unit {0}
NewFields old (f ∷ fs) = (old f.1 ≡ false) × NewFields old fs

-- what a block leaves declared behind it
abbrev pub NewVar : Names → Stmt → Type 0
NewVar old (var p t x e) = old x ≡ false
NewVar old _ = Unit {0}

abbrev pub NewVars : Names → Stmts → Type 0
NewVars old done = Unit {0}
NewVars old (next c rest) = NewVar old c × NewVars old rest

-- ---- names that are free

-- a name that stands for nothing has no path behind it. Scopes of programs are so
pub record IsRooted (s : Scope) : Type 0 where
  pub nowhere : is_missing (s []) ≡ true
  pub behind : (x : List ℕ) (xs : List (List ℕ)) → is_missing (s (x ∷ [])) ≡ true → is_missing (s (x ∷ xs)) ≡ true

-- each name that is declared stands for nothing where it is
abbrev mutual
  pub FreeStmt : Scope → Stmt → Type 0
  FreeStmt t (nothing p) = Unit {0}
  FreeStmt t (block p b) = FreeStmts t b
  FreeStmt t (var p y x e) = is_missing (t (x ∷ [])) ≡ true
  FreeStmt t (assign p x e) = Unit {0}
  FreeStmt t (choice p e a b) = FreeStmt t a × FreeElse t b
  FreeStmt t (return_ p) = Unit {0}
  FreeStmt t (exit_ p) = Unit {0}
  FreeStmt t (call p x args) = Unit {0}

  pub FreeStmts : Scope → Stmts → Type 0
  FreeStmts t done = Unit {0}
  FreeStmts t (next c b) = FreeStmt t c × FreeStmts (after t c) b

  pub FreeElse : Scope → MaybeStmt → Type 0
  FreeElse t without = Unit {0}
  FreeElse t (otherwise c) = FreeStmt t c
