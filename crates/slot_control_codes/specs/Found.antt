-- What is found of places that calls name, and what is made of calls. Read `StepRuns` of `slot_controls` before it.
use Rattle.std.specs.Option.{option_map}
use Rattle.std.specs.Prelude.{◌≡◌, ℕ, ◌<◌, max, List, [], ◌∷◌, ◌++◌, Bool, if◌then◌else◌, Option, Some, None, slice_get}
use Rattle.p4_tree.specs.Tree.{Expr}
use Rattle.p4_meaning.specs.Standard.{checksum_error}
use Rattle.p4_meaning.specs.Statements.{application}
use Rattle.p4_meaning.specs.Actions.{Action}
use Rattle.p4_meaning.specs.Tables.{Table}
use Rattle.p4_meaning.specs.DigestBound.{most_named}
use Rattle.slot_terms.specs.Terms.{Term, constant}
use Rattle.slot_terms.specs.Places.{Place, Places, Means, place_at}
use Rattle.slot_terms.specs.Typed.{Typed, typed_of}
use Rattle.slot_statements.specs.Parameters.{FillAll, slots_from}
use Rattle.slot_controls.specs.Steps.{ActionSlots, Application, Step, Steps, Target, applies, branch, calls, most_told_one, run_all}
use Rattle.slot_controls.specs.Callees.{Callees, lists}
use Rattle.slot_controls.specs.StepRuns.{Applies, IsBody, IsBodyOf, target_at}
use Rattle.slot_control_codes.specs.Callees.{applied_of}
use Rattle.slot_control_codes.specs.declared.statements.Test as code_test
use Rattle.slot_control_codes.specs.declared.statements.Test.TheVariants as test

-- where a path is written
pub record IsTargetOf (m : Places) (p : List (List ℕ)) (t : Target) : Type 0 where
  pub place : Place
  pub is : place_at m.rows p ≡ Some place
  pub same : t ≡ target_at place

-- the slot of the error of checksums, which has one bit
pub record IsErrorSlot (m : Places) (n : ℕ) : Type 0 where
  pub place : Place
  pub is : place_at m.rows checksum_error ≡ Some place
  pub width : place.width ≡ 1
  pub slot : n ≡ place.slot

-- ---- applications

-- one of two steps, by an application; that of none is a miss
abbrev pub table_branch : Option (Steps × Application) → (asked : Bool) → Step → Step → Step
table_branch None asked a b = branch (constant (if asked then 0 else 1)) a b
table_branch (Some x) asked a b = applies x.0 x.1 asked a b

-- the most digests that an application gives by itself
abbrev pub applied_told : Option (Steps × Application) → ℕ
applied_told None = 0
applied_told (Some x) = most_told_one x.0

-- ---- tests

-- the test of an `if`: a term, or whether an application is a hit, or a miss
pub data Test : Type 0 where
  by_term : Typed → Test
  by_table : (applied : Option (Steps × Application)) → (asked : Bool) → Test

-- the same as the code has it
abbrev pub test_in : code_test.Test → Test
test_in (test.Term t) = by_term (typed_of t)
test_in (test.Table x asked) = by_table (option_map applied_of x) asked

-- one of two steps, by a test
abbrev pub test_branch : Test → Step → Step → Step
test_branch (by_term t) a b = branch t.term a b
test_branch (by_table x asked) a b = table_branch x asked a b

-- the most digests that a test gives by itself
abbrev pub test_told : Test → ℕ
test_told (by_term t) = 0
test_told (by_table x asked) = applied_told x

-- a test is of an expression that applies no table, or of the table that it applies
pub record IsTermTest (m : Places) (e : Expr) (t : Typed) : Type 0 where
  pub none : application e ≡ None
  pub means : Means m e 1 t

pub record IsTableTest (k : Callees) (m : Places) (e : Expr) (x : Option (Steps × Application)) (asked : Bool) : Type 0 where
  pub name : List ℕ
  pub some : application e ≡ Some (name, asked)
  pub applies : Applies k m name x

abbrev pub IsTest : Callees → Places → Expr → Test → Type 0
IsTest k m e (by_term t) = IsTermTest m e t
IsTest k m e (by_table x asked) = IsTableTest k m e x asked

-- ---- actions

-- a step is the call of an action
pub record IsCallOf (k : Callees) (m : Places) (a : Action) (es : List Expr) (c : Step) : Type 0 where
  pub args : List Term
  pub body : Steps
  pub is : c ≡ calls (slots_from m.next a.params) args body
  pub fills : FillAll m a.params es args
  pub does : IsBody k m a (λ chosen. run_all chosen body)

-- behind bodies, each with the slots of its parameters, stands that of an action
pub record IsBodyMore (k : Callees) (m : Places) (a : Action) (n : ℕ) (xs ys : List ActionSlots) (cs ds : List Step) : Type 0 where
  pub params : List (ℕ × ℕ)
  pub step : Step
  pub slots : ys ≡ xs ++ record { number = n; params = params } ∷ []
  pub steps : ds ≡ cs ++ step ∷ []
  pub does : IsBodyOf k m a params step

-- the most digests that one of some actions gives that a table may run
abbrev pub most_listed : List Action → Table → List Action → ℕ
most_listed as' t [] = 0
most_listed as' t (a ∷ rest) = max (if lists t a.name then most_named as' a.name else 0) (most_listed as' t rest)
