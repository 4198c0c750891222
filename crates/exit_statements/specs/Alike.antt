-- How a run without exits stands to a run of the given statements. Read `Free` before it.
use Rattle.std.specs.Prelude.{◌≡◌, ℕ, List, [], ◌∷◌, Bool, true, false, None}
use Rattle.std.specs.List.{AllByRecursion}
use Rattle.bit_values.specs.Widths.{bit}
use Rattle.p4_tree.specs.Tree.{Expr}
use Rattle.p4_meaning.specs.Statements.{Flow, Go, Return, Exit, Run, Ended, Tested, Calls}
use Rattle.exit_statements.specs.Without.{Body, in_action, in_control, Flags, flag_of, Exits}
use Rattle.exit_statements.specs.Free.{Hides, HidesFlags, IsFreeExpr}

-- the runs agree but for what is hidden
pub record Alike (hides : Hides) (a b : Run) : Type 0 where
  pub values : (q : List (List ℕ)) → hides q ≡ false → b.store.values q ≡ a.store.values q
  pub headers : b.store.headers ≡ a.store.headers
  -- no header has the empty path, so that variables are no fields
  pub plain : a.store.headers [] ≡ None
  pub cells : b.cells ≡ a.cells
  pub digests : b.digests ≡ a.digests

-- the flags are as before
pub record Stays (n : Flags) (a b : Run) : Type 0 where
  pub left : b.store.values (n.left ∷ []) ≡ a.store.values (n.left ∷ [])
  pub returned : b.store.values (n.returned ∷ []) ≡ a.store.values (n.returned ∷ [])

abbrev pub has_left : Flow → Bool
has_left Go = false
has_left Return = true
has_left Exit = true

-- whether the control is at its end: in an action by an exit alone
abbrev pub left_by : Body → Flow → Bool
left_by in_control f = has_left f
left_by in_action Go = false
left_by in_action Return = false
left_by in_action Exit = true

-- the flags say how the given run ended
pub record Tell (n : Flags) (body : Body) (f : Flow) (r : Run) : Type 0 where
  pub guard : r.store.values (flag_of n body ∷ []) ≡ bit (has_left f)
  pub left : r.store.values (n.left ∷ []) ≡ bit (left_by body f)

-- what is hidden behind statements that went on, and behind those that left
abbrev pub hidden_by : (went left : Hides) → Flow → Hides
hidden_by went left Go = went
hidden_by went left Return = left
hidden_by went left Exit = left

-- the given run ended as x, the other as y
pub record Ends (n : Flags) (body : Body) (went left : Hides) (x y : Ended) : Type 0 where
  pub alike : Alike (hidden_by went left x.1) x.0 y.0
  pub goes : y.1 ≡ Go
  pub tell : Tell n body x.1 y.0

-- the same of tests
pub record Tests (n : Flags) (body : Body) (hides : Hides) (x y : Tested) : Type 0 where
  pub ends : Ends n body hides hides (x.run, x.flow) (y.run, y.flow)
  pub hit : y.hit ≡ x.hit

-- what calls do in the one and in the other, whatever of this kind is hidden
pub record Agrees (n : Flags) (body : Body) (kind : Hides → Type 0) (m : Exits) (c d : Calls) : Type 0 where
  pub call : (hides : Hides) → HidesFlags n hides → kind hides → (x : List ℕ) (es : List Expr) (a b : Run) → AllByRecursion (IsFreeExpr hides) es → Alike hides a b → Tell n body Go b → Ends n body hides hides (c.run_action x es a) (d.run_action x es b)
  pub apply : (hides : Hides) → HidesFlags n hides → kind hides → (t : List ℕ) (a b : Run) → Alike hides a b → Tell n body Go b → Tests n body hides (c.apply_table t a) (d.apply_table t b)
  pub call_stays : (x : List ℕ) (es : List Expr) (r : Run) → m.action x ≡ false → (c.run_action x es r).1 ≡ Go
  pub apply_stays : (t : List ℕ) (r : Run) → m.table t ≡ false → (c.apply_table t r).flow ≡ Go
