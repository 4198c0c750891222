-- What own code does to two runs that are alike: a later linker's main tool. Read `Forwarding` and `Relations` before it.
use Rattle.std.specs.Prelude.{◌≡◌, ℕ, List, false}
use Rattle.std.specs.List.{AllByRecursion}
use Rattle.p4_tree.specs.Tree.{Expr}
use Rattle.p4_meaning.specs.Statements.{Go, Run, Ended, runs, Tested, Calls}
use Rattle.p4_meaning.specs.Actions.{Action, action_named}
use Rattle.p4_meaning.specs.Tables.{Table, table_named, Entries, Tables}
use Rattle.own_code.specs.Regions.{is_mine}
use Rattle.own_code.specs.Forwarding.{IsOwnAct}
use Rattle.own_code.specs.Relations.{Alike, Stays}

-- two ends are alike, both go on, and nothing of the monitor's in the run b has changed
pub record Ran (b : Run) (x y : Ended) : Type 0 where
  pub alike : Alike x.0 y.0
  pub stays : Stays b y.0
  pub goes : x.1 ≡ Go
  pub goes_on : y.1 ≡ Go

-- the same of two tests, which have one outcome
pub record RanTest (b : Run) (x y : Tested) : Type 0 where
  pub alike : Alike x.run y.run
  pub stays : Stays b y.run
  pub goes : x.flow ≡ Go
  pub goes_on : y.flow ≡ Go
  pub hit : y.hit ≡ x.hit

-- own actions and own tables do the same in both
pub record AreAlikeCalls (c d : Calls) : Type 0 where
  pub actions : (x : List ℕ) (es : List Expr) (a b : Run) → IsOwnAct (runs x es) → Alike a b → Ran b (c.run_action x es a) (d.run_action x es b)
  pub tables : (x : List ℕ) (a b : Run) → is_mine x ≡ false → Alike a b → RanTest b (c.apply_table x a) (d.apply_table x b)

-- own tables hold the same
abbrev pub HoldSame : Tables → Tables → Type 0
HoldSame held held' = (x : List ℕ) → is_mine x ≡ false → held' x ≡ held x

-- an action of a name is the same in both programs, or there is none in both
abbrev pub IsSameAction : List Action → List Action → List ℕ → Type 0
IsSameAction actions actions' x = action_named actions' x ≡ action_named actions x

-- the linked program has the own actions and tables, and perhaps others under the monitor's names
pub record HasOwn (actions actions' : List Action) (tables tables' : List Table) : Type 0 where
  pub same_actions : (x : List ℕ) → is_mine x ≡ false → IsSameAction actions actions' x
  pub same_tables : (x : List ℕ) → is_mine x ≡ false → table_named tables' x ≡ table_named tables x

-- whatever a table chooses runs such an action
pub record RunsSame (actions actions' : List Action) (n : Entries) : Type 0 where
  pub listed : AllByRecursion (λ e. IsSameAction actions actions' e.action) n.listed
  pub default : IsSameAction actions actions' n.default.action

-- the entries of a table and its default run no action of the monitor's
pub record AreOwnEntries (n : Entries) : Type 0 where
  pub listed : AllByRecursion (λ e. is_mine e.action ≡ false) n.listed
  pub default : is_mine n.default.action ≡ false
