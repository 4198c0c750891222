-- Steps do what statements mean. Read `Callees` before it, and `Runs` of `slot_statements`; `Laws` after it.
use Rattle.std.specs.Prelude.{◌≡◌, ℕ, ◌<◌, ◌≤◌, List, [], ◌∷◌, length, Bool, true, false, Option, Some, None, nat_eq, slice_get}
use Rattle.bit_values.specs.Bits.{Word}
use Rattle.bit_values.specs.Widths.{sound_width}
use Rattle.p4_tree.specs.Tree.{Expr, Stmt, Stmts, MaybeStmt}
use Rattle.p4_meaning.specs.Statements.{Flow, Calls, Run, Ended, Act, done_by, meaning_of_stmt, meaning_of, meaning_of_else}
use Rattle.p4_meaning.specs.Actions.{Action, action_named}
use Rattle.p4_meaning.specs.Tables.{Table, Tables, table_named}
use Rattle.slot_terms.specs.Places.{Place, Places, IsLaid, Means, Follows}
use Rattle.slot_terms.specs.Typed.{Typed, mask_of}
use Rattle.slot_statements.specs.Parameters.{with_params, masked_from}
use Rattle.slot_statements.specs.Known.{are_free}
use Rattle.slot_statements.specs.Runs.{Ends}
use Rattle.slot_statements.specs.Tables.{NumberedOutcome, MeanKeys}
use Rattle.slot_controls.specs.Steps.{ActionSlots, Application, Target, Step, Steps, done, next, SlotRun, run, run_all}
use Rattle.slot_controls.specs.Callees.{Callees, Fits, AddsVariables, AreCells, bare, calls_of, lists, table_number}

-- beside the slots, what registers hold and the digests are those of a run
pub record HoldsAlike (k : Callees) (u : SlotRun) (r : Run) : Type 0 where
  pub cells : AreCells k.registers u.cells r.cells
  pub digests : u.digests ≡ r.digests

-- what steps run on: by what fits the callees, over slots that follow the store of a run, with each header's validity, and
-- beside them what registers hold and the digests
pub record Stands (base : Places) (k : Callees) (m : Places) (held : Tables) (chosen : ℕ → List Word → NumberedOutcome) (u : SlotRun) (r : Run) : Type 0 where
  pub fits : Fits base k held chosen
  pub adds : AddsVariables base m
  pub follows : Follows m u.state.slots u.state.valid r.store
  pub headers : length base.headers ≤ length u.state.valid
  pub beside : HoldsAlike k u r

-- both end alike, over slots and beside them
pub record StepEnds (k : Callees) (m n : Places) (x : SlotRun × Flow) (y : Ended) : Type 0 where
  pub ends : Ends m n (x.0.state, x.1) y
  pub beside : HoldsAlike k x.0 y.0

-- what runs, and what that means
abbrev pub Running : Type 0
Running = (chosen : ℕ → List Word → NumberedOutcome) → SlotRun → SlotRun × Flow

abbrev pub Meaning : Type 0
Meaning = Calls → Run → Ended

-- what runs does what is meant, whatever tables hold
abbrev pub Does : Callees → Places → Places → Running → Meaning → Type 0
Does k m n f g =
    (base : Places) (held : Tables) (chosen : ℕ → List Word → NumberedOutcome) (u : SlotRun) (r : Run) → Stands base k m held chosen u r
    → StepEnds k m n (f chosen u) (g (calls_of k held) r)

-- a step does what a statement means
abbrev pub DoesStep : Callees → Places → Places → Step → Stmt → Type 0
DoesStep k m n c st = Does k m n (λ chosen. run chosen c) (λ calls. meaning_of_stmt calls st)

-- the same of an `else` that may be there
abbrev pub DoesStepElse : Callees → Places → Step → MaybeStmt → Type 0
DoesStepElse k m c st = Does k m m (λ chosen. run chosen c) (λ calls. meaning_of_else calls st)

-- registers hold what they did, and the digests are those that were
pub record HoldsStill (r q : Run) : Type 0 where
  pub cells : q.cells ≡ r.cells
  pub digests : q.digests ≡ r.digests

-- the same of an act that a call is
abbrev pub DoesAct : Callees → Places → Step → Act → Type 0
DoesAct k m c act = Does k m m (λ chosen. run chosen c) (λ calls. done_by calls act)

-- the same of statements one after the other
abbrev pub DoAllSteps : Callees → Places → Places → Steps → Stmts → Type 0
DoAllSteps k m n cs sts = Does k m n (λ chosen. run_all chosen cs) (λ calls. meaning_of calls sts)

-- where a path is written whose place this is
abbrev pub target_at : Place → Target
target_at r = record { slot = r.slot; header = r.header; mask = mask_of (sound_width r.width) }

-- ---- actions

-- what runs does what an action's body means, where no action is called and no table applied: its parameters are new, and in
-- sight there
pub record IsBody (k : Callees) (m : Places) (a : Action) (f : Running) : Type 0 where
  pub laid : IsLaid m
  pub free : are_free m a.params ≡ true
  pub last : Places
  pub does : Does (bare k) (with_params m a.params) last f (λ calls. meaning_of calls a.body)

-- the same of a step, behind parameters with these slots
abbrev pub IsBodyOf : Callees → Places → Action → List (ℕ × ℕ) → Step → Type 0
IsBodyOf k m a ps c = (ps ≡ masked_from m.next a.params) × IsBody k m a (λ chosen. run chosen c)

-- one of two facts
abbrev pub Either : Bool → (this other : Type 0) → Type 0
Either true A B = A
Either false A B = B

-- so it is of the first action of a number with the body beside it; none: what is said where there is none
abbrev pub HasBody : (found : List (ℕ × ℕ) → Step → Type 0) (none : Type 0) → (number : ℕ) → List ActionSlots → Steps → Type 0
HasBody P none n [] done = none
HasBody P none n [] (next c cs) = ⊥
HasBody P none n (x ∷ xs) done = ⊥
HasBody P none n (x ∷ xs) (next c cs) = Either (nat_eq x.number n) (P x.params c) (HasBody P none n xs cs)

-- of the first actions of a program, so many, those that a table may run have bodies, each that of the first of its name;
-- and what is none of them has none
pub record HaveBodies (k : Callees) (m : Places) (t : Table) (count : ℕ) (xs : List ActionSlots) (bs : Steps) : Type 0 where
  pub own : (i : ℕ) (a b : Action) → i < count → slice_get k.actions i ≡ Some a → lists t a.name ≡ true → action_named k.actions a.name ≡ Some b → HasBody (IsBodyOf k m b) ⊥ i xs bs
  pub others : (i : ℕ) → count ≤ i → HasBody (λ ps c. ⊥) (Unit {0}) i xs bs

-- an application with bodies is that of a table, where there is one, with the terms of its keys and what it may run
abbrev pub IsApplication : Callees → Places → (number : ℕ) → Option Table → Option (Steps × Application) → Type 0
IsApplication k m i None None = Unit {0}
IsApplication k m i None (Some a) = ⊥
IsApplication k m i (Some t) None = ⊥
IsApplication k m i (Some t) (Some a) = (a.1.table ≡ i) × MeanKeys m t.keys a.1.keys × HaveBodies k m t (length k.actions) a.1.actions a.0

-- the same, of the table of a name
abbrev pub Applies : Callees → Places → List ℕ → Option (Steps × Application) → Type 0
Applies k m x a = IsApplication k m (table_number k.tables x) (table_named k.tables x) a

-- terms mean expressions, whose places give no width, one by one
abbrev pub MeanAll : Places → List Expr → List Typed → Type 0
MeanAll m [] [] = Unit {0}
MeanAll m [] (t ∷ ts) = ⊥
MeanAll m (e ∷ es) [] = ⊥
MeanAll m (e ∷ es) (t ∷ ts) = Means m e 0 t × MeanAll m es ts

-- places behind which variables alone were added are such behind others too
abbrev pub Widens : Places → Places → Type 0
Widens m n = (base : Places) → AddsVariables base m → AddsVariables base n
