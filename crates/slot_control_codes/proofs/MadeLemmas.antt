-- Steps that are made of what is found do what calls mean.
use Rattle.std.proofs.Common.{◌≡◌, ℕ, List, Bool, true, false, Option, Some, None, sym, ap, ◌∙◌, subst}
use Rattle.p4_tree.specs.Tree.{Expr, Stmt, MaybeStmt, choice, path}
use Rattle.p4_meaning.specs.Standard.{is_assignable}
use Rattle.p4_meaning.specs.Statements as meaning
use Rattle.p4_meaning.specs.Actions.{Action, action_named}
use Rattle.slot_terms.specs.Typed.{Typed}
use Rattle.slot_terms.specs.Places.{Places, IsLaid, Means}
use Rattle.slot_statements.specs.Codes.{skip}
use Rattle.slot_statements.proofs.TreeLemmas.{two}
use Rattle.slot_controls.specs.Steps.{Application, Step, Steps, Target, plain, branch, applies, reads, writes, tells, verifies, updates}
use Rattle.slot_controls.specs.Callees.{Callees, register_number, register_width}
use Rattle.slot_controls.specs.StepRuns.{Applies, DoesAct, DoesStep, DoesStepElse, MeanAll}
use Rattle.slot_controls.proofs.RegisterLemmas.{reads_into, reads_nowhere, writes_do}
use Rattle.slot_controls.proofs.SumLemmas.{tells_do, verifies_do, updates_do, updates_nowhere}
use Rattle.slot_controls.proofs.ActLemmas.{idle_does}
use Rattle.slot_controls.proofs.CallLemmas.{runs_none, runs_some}
use Rattle.slot_controls.proofs.TableLemmas.{applies_none, applies_some}
use Rattle.slot_controls.proofs.FlowLemmas.{choice_does, table_none, table_some}
use Rattle.slot_control_codes.specs.Found.{IsCallOf, IsErrorSlot, IsTargetOf, IsTest, Test, by_term, by_table, table_branch, test_branch}

pub read_made :
    (k : Callees) (m : Places) (x : List ℕ) (p : List (List ℕ)) (i : Expr) (t : Typed) (u : Target) (n : ℕ) (z : Step) → IsLaid m → is_assignable p ≡ true → IsTargetOf m p u → Means m i 128 t → n ≡ register_number k.registers x → z ≡ reads n u t.term
    → DoesAct k m z (meaning.reads x p i)
read_made k m x p i t u n z laid may at index number is =
    subst (λ c. DoesAct k m c (meaning.reads x p i)) (sym (is ∙ two (λ a b. reads a b t.term) number at.same)) (reads_into k m x p i t at.place laid at.is may index)

pub write_made :
    (k : Callees) (m : Places) (x : List ℕ) (i v : Expr) (t u : Typed) (n w : ℕ) (z : Step) → Means m i 128 t → w ≡ register_width k.registers x → Means m v w u → n ≡ register_number k.registers x → z ≡ writes n t.term u → DoesAct k m z (meaning.writes x i v)
write_made k m x i v t u n w z index width value number is =
    subst (λ c. DoesAct k m c (meaning.writes x i v)) (sym (is ∙ ap (λ a. writes a t.term u) number)) (writes_do k m x i v t u index (subst (λ b. Means m v b u) width value))

pub tell_made : (k : Callees) (m : Places) (n : ℕ) (es : List Expr) (ts : List Typed) (z : Step) → MeanAll m es ts → z ≡ tells n ts → DoesAct k m z (meaning.tells n es)
tell_made k m n es ts z mean is = subst (λ c. DoesAct k m c (meaning.tells n es)) (sym is) (tells_do k m n es ts mean)

pub verify_made :
    (k : Callees) (m : Places) (c : Expr) (es : List Expr) (p : List (List ℕ)) (n : ℕ) (t f : Typed) (ts : List Typed) (z y : Step) → IsLaid m → IsErrorSlot m n → Means m c 1 t → MeanAll m es ts → Means m (path 0 p) 16 f → y ≡ verifies ts f.term n
    → z ≡ branch t.term y (plain skip) → DoesAct k m z (meaning.sums true c es p)
verify_made k m c es p n t f ts z y laid at test mean field made is =
    subst (λ a. DoesAct k m a (meaning.sums true c es p)) (sym (is ∙ ap (λ b. branch t.term b (plain skip)) (made ∙ ap (verifies ts f.term) at.slot))) (verifies_do k m c es p at.place t f ts laid at.is at.width test mean field)

pub update_made :
    (k : Callees) (m : Places) (c : Expr) (es : List Expr) (p : List (List ℕ)) (u : Target) (t : Typed) (ts : List Typed) (z y : Step) → IsLaid m → is_assignable p ≡ true → IsTargetOf m p u → Means m c 1 t → MeanAll m es ts → y ≡ updates ts u
    → z ≡ branch t.term y (plain skip) → DoesAct k m z (meaning.sums false c es p)
update_made k m c es p u t ts z y laid may at test mean made is =
    subst (λ a. DoesAct k m a (meaning.sums false c es p)) (sym (is ∙ ap (λ b. branch t.term b (plain skip)) (made ∙ ap (updates ts) at.same))) (updates_do k m c es p at.place t ts laid at.is may test mean)

pub idle_made : (k : Callees) (m : Places) (z : Step) → z ≡ plain skip → DoesAct k m z meaning.idle
idle_made k m z is = subst (λ c. DoesAct k m c meaning.idle) (sym is) (idle_does k m)

-- what no statement may write
pub read_nowhere : (k : Callees) (m : Places) (x : List ℕ) (p : List (List ℕ)) (i : Expr) (z : Step) → is_assignable p ≡ false → z ≡ plain skip → DoesAct k m z (meaning.reads x p i)
read_nowhere k m x p i z not is = subst (λ c. DoesAct k m c (meaning.reads x p i)) (sym is) (reads_nowhere k m x p i not)

pub update_nowhere : (k : Callees) (m : Places) (c : Expr) (es : List Expr) (p : List (List ℕ)) (z : Step) → is_assignable p ≡ false → z ≡ plain skip → DoesAct k m z (meaning.sums false c es p)
update_nowhere k m c es p z not is = subst (λ a. DoesAct k m a (meaning.sums false c es p)) (sym is) (updates_nowhere k m c es p not)

-- an action that is there, and one that is not
pub run_made : (k : Callees) (m : Places) (x : List ℕ) (es : List Expr) (a : Action) (z : Step) → action_named k.actions x ≡ Some a → IsCallOf k m a es z → DoesAct k m z (meaning.runs x es)
run_made k m x es a z named is = subst (λ b. DoesAct k m b (meaning.runs x es)) (sym is.is) (runs_some k m x es a is.args is.body named is.fills is.does)

pub run_none : (k : Callees) (m : Places) (x : List ℕ) (es : List Expr) (z : Step) → action_named k.actions x ≡ None → z ≡ plain skip → DoesAct k m z (meaning.runs x es)
run_none k m x es z named is = subst (λ b. DoesAct k m b (meaning.runs x es)) (sym is) (runs_none k m x es named)

-- the application of a table, and of none
pub apply_none : (k : Callees) (m : Places) (x : List ℕ) (z : Step) → Applies k m x None → z ≡ plain skip → DoesAct k m z (meaning.applies x)
apply_none k m x z app is = subst (λ b. DoesAct k m b (meaning.applies x)) (sym is) (applies_none k m x app)

pub apply_made : (k : Callees) (m : Places) (x : List ℕ) (bs : Steps) (a : Application) (b c z : Step) → Applies k m x (Some (bs, a)) → b ≡ plain skip → c ≡ plain skip → z ≡ applies bs a true b c → DoesAct k m z (meaning.applies x)
apply_made k m x bs a b c z app left right is = subst (λ y. DoesAct k m y (meaning.applies x)) (sym (is ∙ two (λ u v. applies bs a true u v) left right)) (applies_some k m x bs a true app)

-- an `if` of an application
pub table_does :
    (k : Callees) (m : Places) (at : ℕ) (x : List ℕ) (asked : Bool) (e : Expr) (a b : Step) (st : Stmt) (other : MaybeStmt) (o : Option (Steps × Application)) → meaning.application e ≡ Some (x, asked) → DoesStep k m m a st → DoesStepElse k m b other
    → Applies k m x o → DoesStep k m m (table_branch o asked a b) (choice at e st other)
table_does k m at x asked e a b st other None is does does_else app = table_none k m at x asked e a b st other is does does_else app
table_does k m at x asked e a b st other (Some y) is does does_else app = table_some k m at x asked e a b st other y.0 y.1 is does does_else app

-- an `if` of a test
pub test_does :
    (k : Callees) (m : Places) (at : ℕ) (t : Test) (e : Expr) (a b : Step) (st : Stmt) (other : MaybeStmt) → IsTest k m e t → DoesStep k m m a st → DoesStepElse k m b other → DoesStep k m m (test_branch t a b) (choice at e st other)
test_does k m at (by_term t) e a b st other is does does_else = choice_does k m at t e a b st other is.none is.means does does_else
test_does k m at (by_table x asked) e a b st other is does does_else = table_does k m at is.name asked e a b st other x is.some does does_else is.applies
