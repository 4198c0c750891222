-- Statements that neither read nor write what is hidden: the flags, and variables that are not declared yet. What hides is
-- a test of paths, and a declaration shows what it declares. Read `Without` before it.
use Rattle.std.specs.Prelude.{◌≡◌, ℕ, List, [], ◌∷◌, Bool, true, false, ◌||◌, if◌then◌else◌, Option, Some, None}
use Rattle.std.specs.List.{AllByRecursion}
use Rattle.lex_text.specs.Names.{same_text, same_path}
use Rattle.p4_tree.specs.Tree.{Expr, num, flag, path, valid, applied, error_name, negation, inversion, opposite, binary, conditional, slice, cast, Stmt, Stmts, MaybeStmt, nothing, block, var, assign, choice, return_, exit_, call, done, next, without, otherwise}
use Rattle.p4_tree.specs.Reads.{EachRead}
use Rattle.p4_meaning.specs.Statements.{Act, makes, drops, reads, writes, tells, sums, runs, applies, idle, act_of}
use Rattle.exit_statements.specs.Without.{Flags}

-- a test of the paths that are hidden
abbrev pub Hides : Type 0
Hides = List (List ℕ) → Bool

-- the name is a flag's
abbrev pub is_flag : Flags → List ℕ → Bool
is_flag n x = same_text n.left x || same_text n.returned x

-- the flags are hidden, and else paths of one name alone
pub record HidesFlags (n : Flags) (hides : Hides) : Type 0 where
  pub left : hides (n.left ∷ []) ≡ true
  pub returned : hides (n.returned ∷ []) ≡ true
  pub long : (x y : List ℕ) (rest : List (List ℕ)) → hides (x ∷ y ∷ rest) ≡ false
  pub empty : hides [] ≡ false

-- a variable is shown
abbrev pub shows : Hides → List ℕ → Hides
shows hides x q = if same_path (x ∷ []) q then false else hides q

module _ (hides : Hides) where
  -- an expression reads no path that is hidden
  abbrev pub IsFreeExpr : Expr → Type 0
  IsFreeExpr = EachRead (λ q. hides q ≡ false) (λ q. Unit {0})

  abbrev pub IsFreeStart : Option Expr → Type 0
  IsFreeStart None = Unit {0}
  IsFreeStart (Some e) = IsFreeExpr e

  abbrev pub IsFreeAct : Act → Type 0
  IsFreeAct (makes h b) = Unit {0}
  IsFreeAct drops = Unit {0}
  IsFreeAct (reads x t i) = (hides t ≡ false) × IsFreeExpr i
  IsFreeAct (writes x i v) = IsFreeExpr i × IsFreeExpr v
  IsFreeAct (tells r es) = AllByRecursion IsFreeExpr es
  IsFreeAct (sums b c es f) = IsFreeExpr c × AllByRecursion IsFreeExpr es × (hides f ≡ false)
  IsFreeAct (runs x es) = AllByRecursion IsFreeExpr es
  IsFreeAct (applies t) = Unit {0}
  IsFreeAct idle = Unit {0}

-- a name that a body declares: no flag, hidden so far, and one that it may declare
pub record IsFreeName (n : Flags) (may : List ℕ → Bool) (hides : Hides) (x : List ℕ) : Type 0 where
  pub plain : is_flag n x ≡ false
  pub hidden : hides (x ∷ []) ≡ true
  pub may_be : may x ≡ true

-- what is hidden behind a statement
abbrev pub hides_behind : Hides → Stmt → Hides
hides_behind hides (nothing p) = hides
hides_behind hides (block p ss) = hides
hides_behind hides (var p ty x e) = shows hides x
hides_behind hides (assign p target e) = hides
hides_behind hides (choice p e s t) = hides
hides_behind hides (return_ p) = hides
hides_behind hides (exit_ p) = hides
hides_behind hides (call p callee args) = hides

module _ (n : Flags) (may : List ℕ → Bool) where
  abbrev mutual
    pub IsFreeStmt : Hides → Stmt → Type 0
    IsFreeStmt hides (nothing p) = Unit {0}
    IsFreeStmt hides (block p ss) = AreFreeStmts hides ss
    IsFreeStmt hides (var p ty x e) = IsFreeName n may hides x × IsFreeStart hides e
    IsFreeStmt hides (assign p target e) = (hides target ≡ false) × IsFreeExpr hides e
    IsFreeStmt hides (choice p e s t) = IsFreeExpr hides e × IsFreeStmt hides s × IsFreeElse hides t
    IsFreeStmt hides (return_ p) = Unit {0}
    IsFreeStmt hides (exit_ p) = Unit {0}
    IsFreeStmt hides (call p callee args) = IsFreeAct hides (act_of callee args)

    pub IsFreeElse : Hides → MaybeStmt → Type 0
    IsFreeElse hides without = Unit {0}
    IsFreeElse hides (otherwise s) = IsFreeStmt hides s

    pub AreFreeStmts : Hides → Stmts → Type 0
    AreFreeStmts hides done = Unit {0}
    AreFreeStmts hides (next s ss) = IsFreeStmt hides s × AreFreeStmts (hides_behind hides s) ss
