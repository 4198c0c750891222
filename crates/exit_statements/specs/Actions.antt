-- Actions without exits, whose names stand for what they name, and what of a program may exit. Read `Laws` before it, and
-- `Tables` of the meaning.
use Rattle.std.specs.Prelude.{◌≡◌, ℕ, List, [], ◌∷◌, map, Bool, true, false, not, ◌||◌, if◌then◌else◌, Option, Some, None, is_none}
use Rattle.std.specs.List.{AllByRecursion, list_any}
use Rattle.lex_text.specs.Names.{same_text}
use Rattle.p4_tree.specs.Tree.{flag, Stmt, Stmts, MaybeStmt, nothing, block, var, assign, choice, return_, exit_, call, done, next, without, otherwise}
use Rattle.p4_tree.specs.declared.statement.PTy.TheVariants as type
use Rattle.p4_meaning.specs.Actions.{Param, Action, action_named}
use Rattle.p4_meaning.specs.Tables.{Table, Entries, Tables, table_named, calls_in}
use Rattle.exit_statements.specs.Without.{in_action, in_control, Flags, Exits, no_exits, stmts_leave, stmts_without}
use Rattle.exit_statements.specs.Free.{Hides, is_flag, shows, IsFreeExpr, AreFreeStmts}
use Rattle.exit_statements.specs.Alike.{Agrees}
use Rattle.exit_statements.specs.Laws.{Keeps}

-- ---- without exits

-- a flag is declared, and is not set
abbrev pub lowered : List ℕ → Stmt
lowered x = var 0 type.Bool x (Some (flag 0 false))

-- an action's body; one that cannot leave stays as it is
abbrev pub body_without : Flags → Stmts → Stmts
body_without n ss = if stmts_leave no_exits ss then next (lowered n.returned) (stmts_without n no_exits in_action false ss) else ss

-- the flags of an action: its control's, and one of its own
abbrev pub flags_in : (left : List ℕ) (returned : List ℕ → List ℕ) (action : List ℕ) → Flags
flags_in left returned x = record { left = left; returned = returned x }

abbrev pub action_without : (left : List ℕ) (returned : List ℕ → List ℕ) → Action → Action
action_without left returned a = record { name = a.name; params = a.params; body = body_without (flags_in left returned a.name) a.body }

-- ---- what may exit

abbrev mutual
  -- whether an action's statement may exit
  pub stmt_exits : Stmt → Bool
  stmt_exits (nothing p) = false
  stmt_exits (block p ss) = stmts_exit ss
  stmt_exits (var p ty x e) = false
  stmt_exits (assign p target e) = false
  stmt_exits (choice p e s t) = stmt_exits s || else_exits t
  stmt_exits (return_ p) = false
  stmt_exits (exit_ p) = true
  stmt_exits (call p callee args) = false

  pub else_exits : MaybeStmt → Bool
  else_exits without = false
  else_exits (otherwise s) = stmt_exits s

  pub stmts_exit : Stmts → Bool
  stmts_exit done = false
  stmts_exit (next s ss) = stmt_exits s || stmts_exit ss

abbrev pub action_exits : Option Action → Bool
action_exits None = false
action_exits (Some a) = stmts_exit a.body

abbrev pub table_exits : List Action → Option Table → Bool
table_exits as' None = false
table_exits as' (Some t) = list_any (λ x. action_exits (action_named as' x)) t.actions

-- what of a program may exit
abbrev pub exits_of : List Action → List Table → Exits
exits_of as' ts = record { action = λ x. action_exits (action_named as' x); table = λ x. table_exits as' (table_named ts x) }

-- ---- actions and tables that use no hidden name

-- each variable is hidden but these
abbrev pub all_but : (seen : List ℕ → Bool) → Hides
all_but seen [] = false
all_but seen (x ∷ []) = not (seen x)
all_but seen (x ∷ y ∷ rest) = false

-- parameters are shown
abbrev pub shows_params : Hides → List Param → Hides
shows_params hides [] = hides
shows_params hides (p ∷ ps) = shows_params (shows hides p.name) ps

-- an action reads and writes of variables its own alone, and these; what it declares is its own
pub record IsFreeAction (left : List ℕ) (returned : List ℕ → List ℕ) (own seen : List ℕ → Bool) (a : Action) : Type 0 where
  pub two : same_text (returned a.name) left ≡ false
  pub flag_own : own (returned a.name) ≡ true
  pub params : AllByRecursion (λ p. is_flag (flags_in left returned a.name) p.name ≡ false) a.params
  pub body : AreFreeStmts (flags_in left returned a.name) own (shows_params (all_but seen) a.params) a.body

-- the keys of a table, likewise
abbrev pub IsFreeTable : (seen : List ℕ → Bool) → Table → Type 0
IsFreeTable seen t = AllByRecursion (λ k. IsFreeExpr (all_but seen) k.value) t.keys

-- ---- what tables hold

-- an action of a table's list, or one that the program does not declare
abbrev pub IsListed : List Action → Table → (action : List ℕ) → Type 0
IsListed as' t x = (list_any (same_text x) t.actions || is_none (action_named as' x)) ≡ true

pub record AreListed (as' : List Action) (t : Table) (held : Entries) : Type 0 where
  pub entries : AllByRecursion (λ e. IsListed as' t e.action) held.listed
  pub default : IsListed as' t held.default.action

-- each table runs actions of its list
abbrev pub RunListed : List Action → List Table → Tables → Type 0
RunListed as' ts held = (x : List ℕ) (t : Table) → table_named ts x ≡ Some t → AreListed as' t (held x)

-- ---- the law

-- in the apply block of a control, whatever its tables hold, calls do the same with actions that are without exits
abbrev pub CallsAgree : Type 0
CallsAgree = (n : Flags) (returned : List ℕ → List ℕ) (own seen : List ℕ → Bool) (as' : List Action) (ts : List Table) (held : Tables)
    → AllByRecursion (IsFreeAction n.left returned own seen) as' → AllByRecursion (IsFreeTable seen) ts → RunListed as' ts held
    → Agrees n in_control (Keeps own seen) (exits_of as' ts) (calls_in as' ts held) (calls_in (map (action_without n.left returned) as') ts held)
