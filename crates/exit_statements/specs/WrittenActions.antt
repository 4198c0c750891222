-- Actions without exits as they are written, and under a scope. Read `Written` and `Actions` before it, and `Actions` of
-- the meaning.
use Rattle.std.specs.Prelude.{◌≡◌, ℕ, List, [], ◌∷◌, ◌++◌, Bool, true, false, Option, Some, None}
use Rattle.std.specs.List.{AllByRecursion}
use Rattle.lex_text.specs.Names.{same_text}
use Rattle.p4_tree.specs.Tree as tree
use Rattle.p4_tree.specs.Tree.{Expr, num, flag, path, valid, applied, error_name, negation, inversion, opposite, binary, conditional, slice, cast, Arg, one, many, Stmt, Stmts, MaybeStmt, nothing, block, var, assign, choice, return_, exit_, call, done, next, without, otherwise}
use Rattle.p4_tree.specs.Reads.{EachRead}
use Rattle.p4_meaning.specs.Scope.{Scope, is_among, full, full_name, root_of, constant_named, names_in}
use Rattle.p4_meaning.specs.Actions.{params_in, action_under}
use Rattle.exit_statements.specs.Without.{Flags}
use Rattle.exit_statements.specs.Actions.{body_without, action_without}
use Rattle.exit_statements.specs.Written.{is_function}

-- ---- statements that do not use some names

module _ (hides : List ℕ → Bool) where
  abbrev pub AvoidsPath : List (List ℕ) → Type 0
  AvoidsPath [] = Unit {0}
  AvoidsPath (x ∷ rest) = hides x ≡ false

  abbrev pub AvoidsExpr : Expr → Type 0
  AvoidsExpr = EachRead AvoidsPath AvoidsPath

  abbrev pub AvoidsIf : Option Expr → Type 0
  AvoidsIf None = Unit {0}
  AvoidsIf (Some e) = AvoidsExpr e

  abbrev pub AvoidsArg : Arg → Type 0
  AvoidsArg (one p e) = AvoidsExpr e
  AvoidsArg (many p es) = AllByRecursion AvoidsExpr es

  abbrev mutual
    pub AvoidsStmt : Stmt → Type 0
    AvoidsStmt (nothing p) = Unit {0}
    AvoidsStmt (block p ss) = AvoidStmts ss
    AvoidsStmt (var p ty x e) = (hides x ≡ false) × AvoidsIf e
    AvoidsStmt (assign p target e) = AvoidsPath target × AvoidsExpr e
    AvoidsStmt (choice p e s t) = AvoidsExpr e × (AvoidsStmt s × AvoidsElse t)
    AvoidsStmt (return_ p) = Unit {0}
    AvoidsStmt (exit_ p) = Unit {0}
    AvoidsStmt (call p callee args) = AvoidsPath callee × AllByRecursion AvoidsArg args

    pub AvoidsElse : MaybeStmt → Type 0
    AvoidsElse without = Unit {0}
    AvoidsElse (otherwise s) = AvoidsStmt s

    pub AvoidStmts : Stmts → Type 0
    AvoidStmts done = Unit {0}
    AvoidStmts (next s ss) = AvoidsStmt s × AvoidStmts ss

-- ---- actions

abbrev pub is_returned : Flags → List ℕ → Bool
is_returned n x = same_text n.returned x

-- an action of a control that uses no flag, in a scope where the flags stand for themselves
pub record HasNoFlag (sc : Scope) (n : Flags) (a : tree.Action) : Type 0 where
  pub functions : (x : List ℕ) → is_function (full_name sc x) ≡ is_function x
  pub own : is_among sc.own a.name ≡ true
  pub two : same_text n.returned n.left ≡ false
  pub root : root_of sc.roots n.left ≡ n.left
  pub constant : constant_named sc.constants n.left ≡ None
  pub not_inner : is_among (params_in a.params ++ names_in a.body) n.left ≡ false
  pub params : AllByRecursion (λ p. same_text n.returned p.1 ≡ false) a.params
  pub body : AvoidStmts (is_returned n) a.body

-- the flag of an action of a full name
abbrev pub returned_in : Flags → (action : List ℕ) → List ℕ
returned_in n y = full y n.returned

-- a written action without exits is, under a scope, the one under the scope without exits
abbrev pub ActionsAgree : Type 0
ActionsAgree = (sc : Scope) (n : Flags) (a : tree.Action) → HasNoFlag sc n a
    → action_under sc (record a { body = body_without n a.body }) ≡ action_without n.left (returned_in n) (action_under sc a)
