-- Code does what statements mean. Read `Codes` before it, `Places` of `slot_terms`, and `Statements` of the trees' meaning;
-- `Tables` after it.
use Rattle.std.specs.Prelude.{◌≡◌, ℕ, List, take, length}
use Rattle.p4_tree.specs.Tree.{Arg, Stmt, Stmts, MaybeStmt, call}
use Rattle.p4_meaning.specs.Statements.{Flow, Go, Run, Calls, Ended, drops, done_by, meaning_of_stmt, meaning_of, meaning_of_else}
use Rattle.slot_terms.specs.Places.{Places, Follows}
use Rattle.slot_terms.specs.States.{State}
use Rattle.slot_statements.specs.Codes.{Code, Codes, exec, exec_all}

-- both end alike: the slots follow the store by the places before, and where what follows goes on, by those behind
pub record Ends (m n : Places) (x : State × Flow) (y : Ended) : Type 0 where
  pub flow : x.1 ≡ y.1
  pub kept : Follows m x.0.slots x.0.valid y.0.store
  pub grown : y.1 ≡ Go → Follows n x.0.slots x.0.valid y.0.store

-- over slots that follow the store of a run, code does what a statement means, whatever calls do
abbrev pub Does : Places → Places → Code → Stmt → Type 0
Does m n c st = (calls : Calls) (s : State) (r : Run) → Follows m s.slots s.valid r.store → Ends m n (exec c s) (meaning_of_stmt calls st r)

-- the same of mark_to_drop
abbrev pub DoesDrop : Places → Code → Type 0
DoesDrop m c = (calls : Calls) (s : State) (r : Run) → Follows m s.slots s.valid r.store → Ends m m (exec c s) (done_by calls drops r)

-- the same of a call by these names, whatever its arguments are
abbrev pub DoesCallee : Places → Code → (callee : List (List ℕ)) → Type 0
DoesCallee m c callee = (args : List Arg) → Does m m c (call 0 callee args)

-- the same of an `else` that may be there
abbrev pub DoesElse : Places → Code → MaybeStmt → Type 0
DoesElse m c st = (calls : Calls) (s : State) (r : Run) → Follows m s.slots s.valid r.store → Ends m m (exec c s) (meaning_of_else calls st r)

-- the same of statements one after the other
abbrev pub DoAll : Places → Places → Codes → Stmts → Type 0
DoAll m n cs sts = (calls : Calls) (s : State) (r : Run) → Follows m s.slots s.valid r.store → Ends m n (exec_all cs s) (meaning_of calls sts r)

-- places grow: more rows stand behind those that stood there, and nothing else changes
pub record Grows (m n : Places) : Type 0 where
  pub rows : take (length m.rows) n.rows ≡ m.rows
  pub headers : n.headers ≡ m.headers
  pub size : n.size ≡ m.size
