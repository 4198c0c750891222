-- What holds between two statements of lowered code: a run stands for a state of the property's. Read `Statements` and
-- `Suiting` before it.
use Rattle.std.specs.Prelude.{◌≡◌, codes, ℕ, List, [], ◌∷◌, ◌++◌, map, Bool, true, Some, None}
use Rattle.std.specs.List.{AllByRecursion, filter}
use Rattle.bit_values.specs.Bits.{Word}
use Rattle.bit_values.specs.Widths.{bit, sound_width}
use Rattle.network_run.specs.PathMeaning.{Doing}
use Rattle.indus_tree.specs.Tree.{Decl}
use Rattle.indus_tree.specs.State.{Hop, Held, lookup, shape_width}
use Rattle.indus_tree.specs.Start.{start_word}
use Rattle.indus_tree.specs.Reads.{scalar}
use Rattle.indus_tree.specs.Shapes.{HasWidth, AreShaped}
use Rattle.indus_tree.specs.declared.tree.DeclKind.TheVariants.{Tele, Sensor, Header, Control}
use Rattle.indus_types.specs.StaticWidths.{GiveWidth}
use Rattle.p4_meaning.specs.Standard.{headers_root}
use Rattle.p4_meaning.specs.Store.{Store}
use Rattle.p4_meaning.specs.Value as p4v
use Rattle.p4_meaning.specs.Statements.{Go, Run, Ended, Calls}
use Rattle.sensor_registers.specs.Registers.{cell_value}
use Rattle.own_code.specs.Relations.{is_report}
use Rattle.monitor_laws.specs.Names.{tele_header, first_name, last_name, rejected_name}
use Rattle.monitor_laws.specs.MonitorLaws.{IsView, Others, report_digest}
use Rattle.lowered_code.specs.Names.{sensor_name}
use Rattle.lowered_code.specs.Environment.{Environment, tele_path, view_of, on_switch}
use Rattle.lowered_code.specs.Statements.{Var}
use Rattle.lowered_code.specs.Suiting.{IsScalar}

-- where a block of lowered code stands
pub record Setting : Type 0 where
  -- what calls of actions and applications of tables do
  pub calls : Calls
  pub hop : Hop
  -- the exit part, which has the linker's flags
  pub exits : Bool
  -- the run with which the part begins
  pub start : Run
  -- the variables that the part declares
  pub vars : List Var
  -- the name of the control
  pub control : List ℕ

abbrev pub environment : Setting → Environment
environment p = on_switch p.hop.switch p.control

-- the bits that fill the telemetry's last byte
abbrev pub fill_path : List (List ℕ)
fill_path = headers_root ∷ codes "hydra_tele" ∷ codes "hydra_fill" ∷ []

-- ---- widths

abbrev pub HasWidths : List Var → Store → Type 0
HasWidths vars s = AllByRecursion (λ l. (s.values (l.1 ∷ [])).width ≡ sound_width (p4v.width_of l.0)) vars

-- what a hop shows has the declared widths
pub record HopFits (h : Hop) : Type 0 where
  pub words : (x : List ℕ) (c : Decl) → lookup h.decls x ≡ Some c → c.kind ≡ Header → HasWidth (shape_width c.shape) (h.headers x)
  pub gives : (x : List ℕ) (c : Decl) → lookup h.decls x ≡ Some c → c.kind ≡ Control → GiveWidth (shape_width c.shape) (h.contents x)
  pub sound : (x : List ℕ) (c : Decl) → lookup h.decls x ≡ Some c → sound_width (shape_width c.shape) ≡ shape_width c.shape

-- ---- runs

-- what a part begins with
pub record Begins (p : Setting) : Type 0 where
  pub plain : p.start.store.headers [] ≡ None
  pub valid : p.start.store.headers tele_header ≡ Some true
  -- the flags
  pub first : p.exits ≡ true → p.start.store.values (first_name ∷ []) ≡ bit p.hop.first
  pub last : p.exits ≡ true → p.start.store.values (last_name ∷ []) ≡ bit p.hop.last
  -- header variables read the program's own paths, and there what the hop shows
  pub own : (x : List ℕ) (c : Decl) → lookup p.hop.decls x ≡ Some c → c.kind ≡ Header → IsView (view_of c)
  pub view : (x : List ℕ) (c : Decl) → lookup p.hop.decls x ≡ Some c → c.kind ≡ Header → p4v.value_of (view_of c) 0 p.start.store ≡ p.hop.headers x
  pub hop : HopFits p.hop
  -- the packet's variables are numbered scalars
  pub scalars : (x : List ℕ) (c : Decl) → lookup p.hop.decls x ≡ Some c → c.kind ≡ Tele → IsScalar c.shape

-- the run q, which comes from the part's first, stands for a state
pub record Stands (p : Setting) (q : Run) (d : Doing Held Held) : Type 0 where
  pub tele : (x : List ℕ) (c : Decl) → lookup p.hop.decls x ≡ Some c → c.kind ≡ Tele → q.store.values (tele_path (environment p) x) ≡ scalar (d.tele x) (shape_width c.shape)
  pub sensors : (x : List ℕ) (c : Decl) → lookup p.hop.decls x ≡ Some c → c.kind ≡ Sensor → q.cells (sensor_name x) ≡ map (cell_value (start_word c.start (shape_width c.shape))) (d.sensors x)
  pub shaped : AreShaped p.hop.decls d
  pub fill : q.store.values fill_path ≡ p.start.store.values fill_path
  pub rejected : p.exits ≡ true → q.store.values (rejected_name ∷ []) ≡ bit d.rejected
  pub reports : filter is_report q.digests ≡ filter is_report p.start.digests ++ map report_digest d.reports
  pub widths : HasWidths p.vars q.store
  pub others : Others p.start q

-- statements went on, and this holds of the run behind them
pub record Ends (R : Run → Type 0) (e : Ended) : Type 0 where
  pub run : R e.0
  pub goes : e.1 ≡ Go
