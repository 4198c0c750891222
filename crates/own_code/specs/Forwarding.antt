-- Which forwarding programs are linked: they use no name of the monitor's, write of the standard metadata at most
-- `egress_spec` and `checksum_error`, and tell no reports. `return` and `exit` are taken out of them before, of actions
-- too. Read `Regions` before.
use Rattle.std.specs.Prelude.{◌≡◌, codes, ℕ, List, [], ◌∷◌, Bool, true, false, Option, Some, None, nat_eq}
use Rattle.std.specs.List.{AllByRecursion}
use Rattle.p4_tree.specs.Tree.{Expr, num, flag, path, valid, applied, error_name, negation, inversion, opposite, binary, conditional, slice, cast, Arg, one, Stmt, Stmts, MaybeStmt, nothing, block, var, assign, choice, return_, exit_, call, done, next, without, otherwise, Keyset, any, only, masked, Case, Transition, nowhere, to, select, ParserState}
use Rattle.p4_tree.specs.Reads.{EachRead}
use Rattle.p4_meaning.specs.Statements.{Act, makes, drops, reads, writes, tells, sums, runs, applies, idle, act_of, application}
use Rattle.p4_meaning.specs.Actions.{Action, action_named}
use Rattle.p4_meaning.specs.Tables.{Table}
use Rattle.p4_meaning.specs.Parts.{Parts, Body}
use Rattle.linkage.specs.Linkage.{report_receiver}
use Rattle.own_code.specs.Regions.{is_mine, is_free, is_writable, is_own_header}

-- an expression reads own paths
abbrev pub IsOwnExpr : Expr → Type 0
IsOwnExpr = EachRead (λ q. is_free q ≡ true) (λ q. is_free q ≡ true)

abbrev pub IsOwnStart : Option Expr → Type 0
IsOwnStart None = Unit {0}
IsOwnStart (Some e) = IsOwnExpr e

-- a call makes own headers valid or invalid, uses own registers, tells digests that are no reports, sums own fields,
-- or names an own action or table
abbrev pub IsOwnAct : Act → Type 0
IsOwnAct (makes h b) = is_own_header h ≡ true
IsOwnAct drops = Unit {0}
IsOwnAct (reads x t i) = (is_mine x ≡ false) × (is_free t ≡ true) × (is_writable t ≡ true) × IsOwnExpr i
IsOwnAct (writes x i v) = (is_mine x ≡ false) × IsOwnExpr i × IsOwnExpr v
IsOwnAct (tells n es) = (nat_eq n report_receiver ≡ false) × AllByRecursion IsOwnExpr es
IsOwnAct (sums verifies c es field) = IsOwnExpr c × AllByRecursion IsOwnExpr es × (is_free field ≡ true) × (is_writable field ≡ true)
IsOwnAct (runs x es) = (is_mine x ≡ false) × AllByRecursion IsOwnExpr es
IsOwnAct (applies x) = is_mine x ≡ false
IsOwnAct idle = Unit {0}

-- a test applies an own table, or reads own paths
abbrev pub IsOwnApplication : Option (List ℕ × Bool) → Type 0
IsOwnApplication None = Unit {0}
IsOwnApplication (Some t) = is_mine t.0 ≡ false

abbrev pub IsOwnTest : Expr → Type 0
IsOwnTest e = IsOwnApplication (application e) × IsOwnExpr e

abbrev mutual
  -- a statement reads and writes own paths, and goes on
  pub IsOwnStmt : Stmt → Type 0
  IsOwnStmt (nothing p) = Unit {0}
  IsOwnStmt (block p ss) = AreOwnStmts ss
  IsOwnStmt (var p ty x e) = (is_mine x ≡ false) × IsOwnStart e
  IsOwnStmt (assign p target e) = (is_free target ≡ true) × (is_writable target ≡ true) × IsOwnExpr e
  IsOwnStmt (choice p e a b) = IsOwnTest e × IsOwnStmt a × IsOwnElse b
  IsOwnStmt (return_ p) = ⊥
  IsOwnStmt (exit_ p) = ⊥
  IsOwnStmt (call p callee args) = IsOwnAct (act_of callee args)

  pub IsOwnElse : MaybeStmt → Type 0
  IsOwnElse without = Unit {0}
  IsOwnElse (otherwise s) = IsOwnStmt s

  pub AreOwnStmts : Stmts → Type 0
  AreOwnStmts done = Unit {0}
  AreOwnStmts (next s ss) = IsOwnStmt s × AreOwnStmts ss

-- statements that set variables, and do nothing else
abbrev pub AreVars : Stmts → Type 0
AreVars done = Unit {0}
AreVars (next (var p ty x e) ss) = AreVars ss
AreVars _ = ⊥

-- a statement of a parser's state extracts own headers, or assigns to own paths
abbrev pub IsOwnExtract : List Arg → Type 0
IsOwnExtract (one p (path q names) ∷ []) = is_own_header names ≡ true
IsOwnExtract _ = Unit {0}

abbrev pub IsOwnParse : Stmt → Type 0
IsOwnParse (assign p target e) = (is_free target ≡ true) × (is_writable target ≡ true) × IsOwnExpr e
IsOwnParse (call p callee args) = IsOwnExtract args
IsOwnParse _ = Unit {0}

abbrev pub IsOwnKeyset : Keyset → Type 0
IsOwnKeyset (any p) = Unit {0}
IsOwnKeyset (only p e) = IsOwnExpr e
IsOwnKeyset (masked p e m) = IsOwnExpr e × IsOwnExpr m

pub record IsOwnCase (c : Case) : Type 0 where
  pub keys : AllByRecursion IsOwnKeyset c.keys
  pub next : is_mine c.next ≡ false

abbrev pub IsOwnTransition : Transition → Type 0
IsOwnTransition (nowhere p) = Unit {0}
IsOwnTransition (to p x) = is_mine x ≡ false
IsOwnTransition (select p es cs) = AllByRecursion IsOwnExpr es × AllByRecursion IsOwnCase cs

pub record IsOwnState (s : ParserState) : Type 0 where
  pub name : is_mine s.name ≡ false
  pub body : AllByRecursion IsOwnParse s.body
  pub next : IsOwnTransition s.next

-- a control's variables and its body are own
pub record IsOwnBody (b : Body) : Type 0 where
  pub locals : AreOwnStmts b.locals
  pub body : AreOwnStmts b.body

-- an action has own names, and its body is own. Whatever it calls or applies does nothing
pub record IsOwnAction (a : Action) : Type 0 where
  pub name : is_mine a.name ≡ false
  pub params : AllByRecursion (λ p. is_mine p.name ≡ false) a.params
  pub body : AreOwnStmts a.body

-- a table has an own name, its keys read own paths, and its default and the actions of its list have own names. It may
-- hold anything
pub record IsOwnTable (t : Table) : Type 0 where
  pub name : is_mine t.name ≡ false
  pub keys : AllByRecursion (λ k. IsOwnExpr k.value) t.keys
  pub actions : AllByRecursion (λ x. is_mine x ≡ false) (t.default.action ∷ t.actions)

pub record IsForwarding (f : Parts) : Type 0 where
  pub registers : AllByRecursion (λ c. is_mine c.name ≡ false) f.registers
  pub headers : AllByRecursion (λ h. is_own_header h.path ≡ true) f.headers
  pub metadata : AllByRecursion (λ m. is_mine m.name ≡ false) f.metadata
  pub states : AllByRecursion IsOwnState f.states
  pub actions : AllByRecursion IsOwnAction f.actions
  -- none is called `NoAction`, which does nothing
  pub no_action : action_named f.actions (codes "NoAction") ≡ None
  pub tables : AllByRecursion IsOwnTable f.tables
  pub verify : AreOwnStmts f.verify
  pub ingress : IsOwnBody f.ingress
  -- what ingress runs before its body sets its variables alone
  pub ingress_vars : AreVars f.ingress.locals
  pub egress : IsOwnBody f.egress
  pub compute : AreOwnStmts f.compute
  pub emits : AllByRecursion (λ p. is_own_header p ≡ true) f.emits
