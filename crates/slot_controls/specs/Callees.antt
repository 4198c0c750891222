-- What the calls of a control stand for: the actions, tables and registers of its program, and its headers. Read `Steps`
-- before it, and `Tables` of the trees' meaning; `StepRuns` after it.
use Rattle.std.specs.Prelude.{◌≡◌, ◌≢◌, ◌⊎◌, ℕ, suc, ◌≤◌, List, [], ◌∷◌, length, Bool, true, ◌||◌, is_none, Some, None, if◌then◌else◌, slice_get}
use Rattle.std.specs.List.{AllByRecursion}
use Rattle.bit_values.specs.Bits.{Word}
use Rattle.bit_values.specs.Widths.{sound_width}
use Rattle.lex_text.specs.Names.{same_text, parent}
use Rattle.p4_meaning.specs.Parsing.{Header}
use Rattle.p4_meaning.specs.Scope.{is_among}
use Rattle.p4_meaning.specs.Statements.{Calls}
use Rattle.p4_meaning.specs.Actions.{Action, action_named}
use Rattle.p4_meaning.specs.Tables.{Table, Tables, Entries, table_named, calls_in}
use Rattle.p4_meaning.specs.Parts.{Cells}
use Rattle.p4_statements.specs.Cells.{Rows, cells_in}
use Rattle.p4_statements.specs.Outcomes.{Outcome, outcome_in}
use Rattle.slot_terms.specs.Places.{Place, Places, place_at, header_number, IsLaid}
use Rattle.slot_statements.specs.Runs.{Grows}
use Rattle.slot_statements.specs.Tables.{NumberedOutcome}
use Rattle.slot_packets.specs.Headers.{IsHeaderAt}
use Rattle.slot_controls.specs.Steps.{HeaderSlots}

-- the actions, tables and registers of a program, and the slots of its headers by their numbers
pub record Callees : Type 0 where
  pub actions : List Action
  pub tables : List Table
  pub registers : List Cells
  pub headers : List HeaderSlots

-- in an action, where no action is called and no table applied
abbrev pub bare : Callees → Callees
bare k = record { actions = []; tables = []; registers = k.registers; headers = k.headers }

-- what calls do, where tables hold this
abbrev pub calls_of : Callees → Tables → Calls
calls_of k held = calls_in k.actions k.tables held

-- how many tables stand before the first of a name
abbrev pub table_number : List Table → List ℕ → ℕ
table_number [] x = 0
table_number (t ∷ ts) x = if same_text t.name x then 0 else suc (table_number ts x)

-- how many registers stand before the first of a name, and how many bits a cell of that has; where there is none, one
abbrev pub register_number : List Cells → List ℕ → ℕ
register_number [] x = 0
register_number (c ∷ cs) x = if same_text c.name x then 0 else suc (register_number cs x)

abbrev pub register_width : List Cells → List ℕ → ℕ
register_width [] x = 1
register_width (c ∷ cs) x = if same_text c.name x then sound_width c.width else register_width cs x

-- ---- what runs fits them

-- an outcome by the numbers of actions is an outcome of the trees' meaning
pub record IsChoice (actions : List Action) (p : NumberedOutcome) (o : Outcome) : Type 0 where
  pub action : slice_get actions p.action ≡ o.action
  pub args : p.args ≡ o.args
  pub hit : p.hit ≡ o.hit

-- a table has an action of this name in its list, or as its default
abbrev pub lists : Table → (name : List ℕ) → Bool
lists t x = is_among (t.default.action ∷ t.actions) x

-- it may run what has this name: such an action, or what is no action
abbrev pub may_run : List Action → Table → (name : List ℕ) → Bool
may_run as' t x = lists t x || is_none (action_named as' x)

-- so it is of all that a table holds
pub record RunsOwn (as' : List Action) (t : Table) (h : Entries) : Type 0 where
  pub entries : AllByRecursion (λ e. may_run as' t e.action ≡ true) h.listed
  pub default : may_run as' t h.default.action ≡ true

-- the header of a number and a path has its fields in these slots
pub record IsLaidOut (m : Places) (n : ℕ) (p : List (List ℕ)) (h : HeaderSlots) : Type 0 where
  pub header : Header
  pub path : header.path ≡ p
  pub named : header.path ≢ []
  pub count : h.count ≡ length header.fields
  pub fields : IsHeaderAt m n header h.first

-- where places `base` are in sight: tables run actions of their lists, choices by their numbers are the outcomes where they
-- hold this, and headers are laid out
pub record Fits (base : Places) (k : Callees) (held : Tables) (chosen : ℕ → List Word → NumberedOutcome) : Type 0 where
  pub laid : IsLaid base
  pub own : (x : List ℕ) (t : Table) → table_named k.tables x ≡ Some t → RunsOwn k.actions t (held x)
  pub choices : (x : List ℕ) (t : Table) (ws : List Word) → table_named k.tables x ≡ Some t → IsChoice k.actions (chosen (table_number k.tables x) ws) (outcome_in k.actions (Some t) (held x) ws)
  pub headers : (p : List (List ℕ)) (n : ℕ) (h : HeaderSlots) → header_number base.headers p ≡ Some n → slice_get k.headers n ≡ Some h → IsLaidOut base n p h

-- ---- registers

-- registers with cells, by their names
abbrev pub named_cells : List Cells → List (List Word) → Rows
named_cells [] cells = []
named_cells (r ∷ rs) [] = []
named_cells (r ∷ rs) (c ∷ cs) = (r.name, c) ∷ named_cells rs cs

-- cells of so many bits
abbrev pub HaveWidth : ℕ → List Word → Type 0
HaveWidth w [] = Unit {0}
HaveWidth w (c ∷ cs) = (c.width ≡ w) × HaveWidth w cs

-- each register has cells, which are as wide as it says
abbrev pub AreWide : List Cells → List (List Word) → Type 0
AreWide [] [] = Unit {0}
AreWide [] (c ∷ cs) = ⊥
AreWide (r ∷ rs) [] = ⊥
AreWide (r ∷ rs) (c ∷ cs) = HaveWidth (sound_width r.width) c × AreWide rs cs

-- the cells by the numbers of registers are those by their names
pub record AreCells (rs : List Cells) (cells : List (List Word)) (cells_of : List ℕ → List Word) : Type 0 where
  pub wide : AreWide rs cells
  pub named : (x : List ℕ) → cells_of x ≡ cells_in (named_cells rs cells) x

-- ---- variables in sight

-- a variable has one name, and its slot is none of those before
pub record IsVariable (base : Places) (p : List (List ℕ)) (r : Place) : Type 0 where
  pub header : r.header ≡ None
  pub behind : base.next ≤ r.slot
  pub path : parent p ≡ []

-- behind places stand variables alone
pub record AddsVariables (base m : Places) : Type 0 where
  pub grows : Grows base m
  pub next : base.next ≤ m.next
  pub variables : (p : List (List ℕ)) (r : Place) → place_at m.rows p ≡ Some r → (place_at base.rows p ≡ Some r) ⊎ IsVariable base p r
