-- That each step does what a statement means, by what its parts do. Read `StepRuns` before it.
use Rattle.std.specs.Prelude.{◌≡◌, ℕ, List, [], ◌∷◌, ◌++◌, Bool, true, false, Some, None, if◌then◌else◌, slice_get}
use Rattle.p4_tree.specs.Tree.{Expr, path, Stmt, Stmts, MaybeStmt, block, choice, stmts_from}
use Rattle.p4_meaning.specs.Standard.{checksum_error, is_assignable}
use Rattle.p4_meaning.specs.Statements as meaning
use Rattle.p4_meaning.specs.Statements.{application}
use Rattle.p4_meaning.specs.Actions.{Action, action_named}
use Rattle.slot_terms.specs.Terms.{Term, constant}
use Rattle.slot_terms.specs.Typed.{Typed}
use Rattle.slot_terms.specs.Places.{Place, Places, IsLaid, Means, place_at, header_number}
use Rattle.slot_statements.specs.Codes.{Code, skip}
use Rattle.slot_statements.specs.Runs as code_runs
use Rattle.slot_statements.specs.Runs.{Grows}
use Rattle.slot_statements.specs.Parameters.{FillAll, slots_from}
use Rattle.slot_statements.specs.Known.{places_behind}
use Rattle.slot_controls.specs.Steps.{Application, HeaderSlots, Step, Steps, plain, group, branch, calls, applies, makes, reads, writes, tells, verifies, updates, steps_from, run_all}
use Rattle.slot_controls.specs.Callees.{Callees, register_number, register_width}
use Rattle.slot_controls.specs.StepRuns.{DoesStep, DoesStepElse, DoesAct, DoAllSteps, IsBody, MeanAll, Applies, Widens, target_at}

-- code does as a step what it does
abbrev pub CodeDoes : Type 0
CodeDoes = (k : Callees) (m n : Places) (c : Code) (st : Stmt) → places_behind st m ≡ Some n → code_runs.Does m n c st → DoesStep k m n (plain c) st

-- an action's call does what the action of its name does; that of none does nothing
abbrev pub CallsDo : Type 0
CallsDo =
    (k : Callees) (m : Places) (x : List ℕ) (es : List Expr)
    → ((a : Action) (ts : List Term) (body : Steps) → action_named k.actions x ≡ Some a → FillAll m a.params es ts → IsBody k m a (λ chosen. run_all chosen body) → DoesAct k m (calls (slots_from m.next a.params) ts body) (meaning.runs x es))
    × (action_named k.actions x ≡ None → DoesAct k m (plain skip) (meaning.runs x es))

-- the application of a table does what that of its name does; that of none does nothing
abbrev pub ApplicationsDo : Type 0
ApplicationsDo =
    (k : Callees) (m : Places) (x : List ℕ)
    → ((bs : Steps) (a : Application) (asked : Bool) → Applies k m x (Some (bs, a)) → DoesAct k m (applies bs a asked (plain skip) (plain skip)) (meaning.applies x)) × (Applies k m x None → DoesAct k m (plain skip) (meaning.applies x))

-- setValid and setInvalid of a header that has a number and slots
abbrev pub ValidityDoes : Type 0
ValidityDoes =
    (k : Callees) (m : Places) (p : List (List ℕ)) (n : ℕ) (h : HeaderSlots) (b : Bool) → IsLaid m → header_number m.headers p ≡ Some n → slice_get k.headers n ≡ Some h → DoesAct k m (makes n h b) (meaning.makes p b)

-- mark_to_drop
abbrev pub DropsDo : Type 0
DropsDo = (k : Callees) (m : Places) (c : Code) → code_runs.DoesDrop m c → DoesAct k m (plain c) meaning.drops

-- a register's read into a place, and into what no statement may write
abbrev pub ReadsDo : Type 0
ReadsDo =
    (k : Callees) (m : Places) (x : List ℕ) (p : List (List ℕ)) (i : Expr) (t : Typed)
    → ((r : Place) → IsLaid m → place_at m.rows p ≡ Some r → is_assignable p ≡ true → Means m i 128 t → DoesAct k m (reads (register_number k.registers x) (target_at r) t.term) (meaning.reads x p i))
    × (is_assignable p ≡ false → DoesAct k m (plain skip) (meaning.reads x p i))

-- a register's write
abbrev pub WritesDo : Type 0
WritesDo =
    (k : Callees) (m : Places) (x : List ℕ) (i v : Expr) (t u : Typed) → Means m i 128 t → Means m v (register_width k.registers x) u → DoesAct k m (writes (register_number k.registers x) t.term u) (meaning.writes x i v)

-- a digest
abbrev pub DigestsDo : Type 0
DigestsDo = (k : Callees) (m : Places) (n : ℕ) (es : List Expr) (ts : List Typed) → MeanAll m es ts → DoesAct k m (tells n ts) (meaning.tells n es)

-- verify_checksum, where the error has a place of one bit
abbrev pub VerifiesDo : Type 0
VerifiesDo =
    (k : Callees) (m : Places) (c : Expr) (es : List Expr) (p : List (List ℕ)) (r : Place) (t f : Typed) (ts : List Typed) → IsLaid m → place_at m.rows checksum_error ≡ Some r → r.width ≡ 1
    → Means m c 1 t → MeanAll m es ts → Means m (path 0 p) 16 f → DoesAct k m (branch t.term (verifies ts f.term r.slot) (plain skip)) (meaning.sums true c es p)

-- update_checksum of a place, and of what no statement may write
abbrev pub UpdatesDo : Type 0
UpdatesDo =
    (k : Callees) (m : Places) (c : Expr) (es : List Expr) (p : List (List ℕ))
    → ((r : Place) (t : Typed) (ts : List Typed) → IsLaid m → place_at m.rows p ≡ Some r → is_assignable p ≡ true → Means m c 1 t → MeanAll m es ts
    → DoesAct k m (branch t.term (updates ts (target_at r)) (plain skip)) (meaning.sums false c es p))
    × (is_assignable p ≡ false → DoesAct k m (plain skip) (meaning.sums false c es p))

-- a call of a form that does nothing
abbrev pub IdlesDo : Type 0
IdlesDo = (k : Callees) (m : Places) → DoesAct k m (plain skip) meaning.idle

-- an `if` of a term
abbrev pub BranchesDo : Type 0
BranchesDo =
    (k : Callees) (m : Places) (at : ℕ) (t : Typed) (e : Expr) (a b : Step) (st : Stmt) (other : MaybeStmt) → application e ≡ None → Means m e 1 t → DoesStep k m m a st → DoesStepElse k m b other
    → DoesStep k m m (branch t.term a b) (choice at e st other)

-- an `if` of whether a table hits or misses; the application of none is a miss
abbrev pub TablesBranch : Type 0
TablesBranch =
    (k : Callees) (m : Places) (at : ℕ) (x : List ℕ) (asked : Bool) (e : Expr) (a b : Step) (st : Stmt) (other : MaybeStmt) → application e ≡ Some (x, asked) → DoesStep k m m a st → DoesStepElse k m b other
    → ((bs : Steps) (y : Application) → Applies k m x (Some (bs, y)) → DoesStep k m m (applies bs y asked a b) (choice at e st other))
    × (Applies k m x None → DoesStep k m m (branch (constant (if asked then 0 else 1)) a b) (choice at e st other))

-- a block, behind which its variables are no more in sight
abbrev pub BlocksDo : Type 0
BlocksDo = (k : Callees) (m n : Places) (at : ℕ) (cs : Steps) (ss : Stmts) → DoAllSteps k m n cs ss → DoesStep k m m (group cs) (block at ss)

-- a statement more
abbrev pub ListsDo : Type 0
ListsDo =
    (k : Callees) (m n q : Places) (xs : List Step) (ys : List Stmt) (c : Step) (st : Stmt) → Grows m n → Widens m n → DoAllSteps k m n (steps_from xs) (stmts_from ys) → DoesStep k n q c st
    → DoAllSteps k m q (steps_from (xs ++ c ∷ [])) (stmts_from (ys ++ st ∷ []))

-- what has code declares variables alone
abbrev pub CodeWidens : Type 0
CodeWidens = (st : Stmt) (m n : Places) → places_behind st m ≡ Some n → Widens m n
