-- Statements that call what is found alike in two lists of actions and tables. Read `Tables` of the meaning before it.
use Rattle.std.specs.Prelude.{◌≡◌, ℕ, List, Bool, Option, Some, None}
use Rattle.std.specs.List.{AllByRecursion}
use Rattle.p4_tree.specs.Tree.{Stmt, Stmts, MaybeStmt, nothing, block, var, assign, choice, return_, exit_, call, done, next, without, otherwise}
use Rattle.p4_meaning.specs.Statements.{Act, makes, drops, reads, writes, tells, sums, runs, applies, idle, act_of, application}
use Rattle.p4_meaning.specs.Actions.{Action, action_named}
use Rattle.p4_meaning.specs.Tables.{Table, table_named}

module _ (as' bs : List Action) (ts us : List Table) where
  abbrev pub FindsAction : List ℕ → Type 0
  FindsAction x = action_named bs x ≡ action_named as' x

  -- a table, and the actions of its list
  abbrev pub FindsListed : Option Table → Type 0
  FindsListed None = Unit {0}
  FindsListed (Some t) = AllByRecursion FindsAction t.actions

  pub record FindsTable (x : List ℕ) : Type 0 where
    pub same : table_named us x ≡ table_named ts x
    pub listed : FindsListed (table_named ts x)

  abbrev pub FindsAct : Act → Type 0
  FindsAct (makes h b) = Unit {0}
  FindsAct drops = Unit {0}
  FindsAct (reads x t i) = Unit {0}
  FindsAct (writes x i v) = Unit {0}
  FindsAct (tells r es) = Unit {0}
  FindsAct (sums b c es f) = Unit {0}
  FindsAct (runs x es) = FindsAction x
  FindsAct (applies t) = FindsTable t
  FindsAct idle = Unit {0}

  abbrev pub FindsApplied : Option (List ℕ × Bool) → Type 0
  FindsApplied None = Unit {0}
  FindsApplied (Some t) = FindsTable t.0

  abbrev mutual
    pub FindsStmt : Stmt → Type 0
    FindsStmt (nothing p) = Unit {0}
    FindsStmt (block p ss) = FindStmts ss
    FindsStmt (var p ty x e) = Unit {0}
    FindsStmt (assign p target e) = Unit {0}
    FindsStmt (choice p e s t) = FindsApplied (application e) × (FindsStmt s × FindsElse t)
    FindsStmt (return_ p) = Unit {0}
    FindsStmt (exit_ p) = Unit {0}
    FindsStmt (call p callee args) = FindsAct (act_of callee args)

    pub FindsElse : MaybeStmt → Type 0
    FindsElse without = Unit {0}
    FindsElse (otherwise s) = FindsStmt s

    pub FindStmts : Stmts → Type 0
    FindStmts done = Unit {0}
    FindStmts (next s ss) = FindsStmt s × FindStmts ss
