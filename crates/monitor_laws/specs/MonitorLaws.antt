-- What a lowering has to show of what it gives. The laws on linked programs follow from this record alone. Read `Monitor`
-- before it, `OwnCode` of `own_code` and `Lengths` of `packet_lengths`.
use Rattle.std.specs.Prelude.{◌≡◌, codes, ℕ, ◌*◌, ◌<◌, List, [], ◌∷◌, ◌++◌, map, Bool, true, false, ◌||◌, not, Some, None, All}
use Rattle.std.specs.List.{filter, AllByRecursion}
use Rattle.bit_values.specs.Bits.{Word, word}
use Rattle.bit_values.specs.Widths.{bit}
use Rattle.lex_text.specs.Names.{same_text}
use Rattle.p4_tree.specs.Tree.{Expr, path, valid}
use Rattle.p4_meaning.specs.Standard.{standard_root}
use Rattle.p4_meaning.specs.Store.{Store}
use Rattle.p4_meaning.specs.Statements.{Go, Digest, Run, Ended, Calls, meaning_of}
use Rattle.p4_meaning.specs.Parsing.{Field, width_sum}
use Rattle.p4_meaning.specs.Tables.{Table, table_named, Entries, Tables, calls_in}
use Rattle.p4_meaning.specs.Pass.{Kept, start_cells}
use Rattle.network_run.specs.NetworkRun.{put}
use Rattle.network_run.specs.PathMeaning.{Reads, Report, Doing, nothing_yet, exit_part}
use Rattle.linkage.specs.Linkage.{report_receiver, xor_with}
use Rattle.switch_machines.specs.Programs.{view_of, cells_of}
use Rattle.own_code.specs.Regions.{is_mine, is_free}
use Rattle.own_code.specs.Relations.{is_report}
use Rattle.packet_lengths.specs.Lengths.{KeepLength, KeepsAction}
use Rattle.monitor_laws.specs.Names.{tele_header, mark_path, first_name, last_name, rejected_name, is_lowered, is_sensor, is_long}
use Rattle.monitor_laws.specs.Telemetry.{mark_field, mark_word, AreFor, HasWords, AreApart, zeros}
use Rattle.monitor_laws.specs.Monitor.{Monitor, flag_locals, fields_of}

-- what a header variable reads: an own field, or whether an own header is valid
abbrev pub IsView : Expr → Type 0
IsView (path p names) = (is_free names ≡ true) × (is_long names ≡ true)
IsView (valid p header) = is_free header ≡ true
IsView _ = ⊥

-- the digest of a report
abbrev pub report_digest : Report → Digest
report_digest r = record { receiver = report_receiver; values = word 16 r.number ∷ r.values }

-- from the run a to the run b, lowered statements wrote nothing but what is theirs
pub record Others (a b : Run) : Type 0 where
  pub values : (p : List (List ℕ)) → is_lowered p ≡ false → b.store.values p ≡ a.store.values p
  pub headers : b.store.headers ≡ a.store.headers
  pub cells : (x : List ℕ) → is_sensor x ≡ false → b.cells x ≡ a.cells x
  pub digests : filter (λ d. not (is_report d)) b.digests ≡ filter (λ d. not (is_report d)) a.digests

-- the linker set the flags
pub record Flags (first last : Bool) (s : Store) : Type 0 where
  pub is_first : s.values (first_name ∷ []) ≡ bit first
  pub is_last : s.values (last_name ∷ []) ≡ bit last
  pub is_rejected : s.values (rejected_name ∷ []) ≡ bit false

-- a table of the monitor's runs actions of the monitor's alone, or nothing
abbrev pub IsMonitorAction : List ℕ → Type 0
IsMonitorAction x = (is_mine x || same_text (codes "NoAction") x) ≡ true

pub record AreMonitorEntries (n : Entries) : Type 0 where
  pub listed : AllByRecursion (λ e. IsMonitorAction e.action) n.listed
  pub default : IsMonitorAction n.default.action

-- `Fit t`: the tele values are such as come back from their bytes. `Keeps z c b`: what a switch keeps stands for the
-- sensors z and the control contents c
module _ {T Z C : Type 0} (m : Monitor T Z C) (Fit : T → Type 0) (Keeps : Z → (ℕ → C) → Kept → Type 0) where
  -- the monitor's names mean its actions and its tables, which hold this, whatever else a program has
  pub record MeansTops (held : Tables) (calls : Calls) : Type 0 where
    pub actions : (x : List ℕ) (es : List Expr) (r : Run) → is_mine x ≡ true → calls.run_action x es r ≡ (calls_in m.actions m.tables held).run_action x es r
    pub tables : (x : List ℕ) (r : Run) → is_mine x ≡ true → calls.apply_table x r ≡ (calls_in m.actions m.tables held).apply_table x r

  -- the store holds the telemetry of tele values
  pub record HasTele (s : Store) (t : T) : Type 0 where
    pub plain : s.headers [] ≡ None
    pub standard : s.headers (standard_root ∷ []) ≡ None
    pub valid : s.headers tele_header ≡ Some true
    pub mark : s.values mark_path ≡ mark_word m.mark
    pub words : HasWords tele_header m.fields (m.words t) s
    pub fits : Fit t

  -- a run at a switch whose tables hold this stands for tele values, sensors and what a hop shows; the part's variables
  -- are 0
  pub record StandsFor (vars : List Field) (held : Tables) (r : Run) (h : Reads C) (t : T) (z : Z) : Type 0 where
    pub tele : HasTele r.store t
    pub keeps : Keeps z h.contents (record { registers = r.cells; tables = held })
    pub view : view_of m.views r.store ≡ h.view
    pub fresh : HasWords [] vars (zeros vars) r.store

  -- statements did what a part does, from the run a on: they wrote nothing but their own, and went on
  pub record Does (held : Tables) (a : Run) (e : Ended) (c : ℕ → C) (d : Doing T Z) : Type 0 where
    pub words : HasWords tele_header m.fields (m.words d.tele) e.0.store
    pub fits : Fit d.tele
    pub keeps : Keeps d.sensors c (record { registers = e.0.cells; tables = held })
    pub others : Others a e.0
    pub reports : filter is_report e.0.digests ≡ filter is_report a.digests ++ map report_digest d.reports
    pub goes : e.1 ≡ Go

  -- `FitView ws`: the header variables' words are such as fields of the declared widths hold
  module _ (FitView : List Word → Type 0) (IsVariable : ℕ → Type 0) (IsFitContents : (variable : ℕ) → C → Type 0) where
    pub record MonitorLaws : Type 0 where
      -- the statements: init at the first hop, and telemetry with the checker at the last
      pub entry :
          (calls : Calls) (held : Tables) → MeansTops held calls → (r : Run) (h : Reads C) (t : T) (z : Z) →
          h.first ≡ true → h.last ≡ false → FitView h.view → StandsFor (fields_of m.entry_locals) held r h t z →
          Does held r (meaning_of calls (m.entry h.switch) r) h.contents (m.property.init h (nothing_yet t z))
      pub exit :
          (calls : Calls) (held : Tables) → MeansTops held calls → (r : Run) (h : Reads C) (t : T) (z : Z) →
          Flags h.first h.last r.store → FitView h.view → StandsFor (fields_of m.exit_locals) held r h t z →
          Does held r (meaning_of calls (m.exit h.switch) r) h.contents (exit_part m.property h t z)
      -- at the last hop the verdict is in its flag
      pub verdict :
          (calls : Calls) (held : Tables) → MeansTops held calls → (r : Run) (h : Reads C) (t : T) (z : Z) →
          Flags h.first h.last r.store → FitView h.view → StandsFor (fields_of m.exit_locals) held r h t z → h.last ≡ true →
          (meaning_of calls (m.exit h.switch) r).0.store.values (rejected_name ∷ []) ≡ bit (exit_part m.property h t z).rejected
      -- no statement writes the packet's length, or where the length without telemetry is
      pub entry_keeps : (s : ℕ) → KeepLength (m.entry s)
      pub exit_keeps : (s : ℕ) → KeepLength (m.exit s)
      pub actions_keep : AllByRecursion KeepsAction m.actions
      -- the telemetry: its mark is a byte, and its words fit its fields, which have names of their own and fill whole bytes.
      -- At the start all are 0
      pub marked : m.mark < 256
      pub fitting : (t : T) → Fit t → AreFor m.fields (m.words t)
      pub apart : AreApart (mark_field ∷ m.fields)
      pub whole : width_sum m.fields ≡ m.room * 8
      pub start_fits : Fit m.property.tele
      pub start_zero : m.words m.property.tele ≡ zeros m.fields
      -- names: variables are the monitor's and no flags, registers are sensors', actions and tables the monitor's, and
      -- header variables read own paths
      pub entry_vars : AllByRecursion (λ f. is_lowered (f.name ∷ []) ≡ true) (fields_of m.entry_locals)
      pub exit_vars : AllByRecursion (λ f. is_lowered (f.name ∷ []) ≡ true) (fields_of m.exit_locals)
      pub entry_apart : AreApart (fields_of m.entry_locals)
      pub exit_apart : AreApart (fields_of (flag_locals ++ m.exit_locals))
      pub named : AllByRecursion (λ c. is_sensor c.name ≡ true) m.registers
      pub actions_named : AllByRecursion (λ a. is_mine a.name ≡ true) m.actions
      pub tables_named : AllByRecursion (λ t. is_mine t.name ≡ true) m.tables
      pub views : AllByRecursion IsView m.views
      -- what a switch keeps: it rests on the sensors' cells and on the monitor's tables alone, which run the monitor's actions
      pub keeps_same :
          (z : Z) (c : ℕ → C) (a b : Kept) → ((x : List ℕ) → is_sensor x ≡ true → b.registers x ≡ a.registers x) →
          ((x : List ℕ) → is_mine x ≡ true → b.tables x ≡ a.tables x) → Keeps z c a → Keeps z c b
      pub keeps_named :
          (z : Z) (c : ℕ → C) (b : Kept) → Keeps z c b → (x : List ℕ) (t : Table) → table_named m.tables x ≡ Some t →
          AreMonitorEntries (b.tables x)
      -- a switch that is loaded, and one of whose control variables is set
      pub keeps_start :
          (c : ℕ → C) (b : Kept) → ((v : ℕ) → IsVariable v → IsFitContents v (c v)) →
          ((x : List ℕ) → is_sensor x ≡ true → b.registers x ≡ start_cells m.registers x) →
          Keeps m.property.sensors c (record b { tables = m.controls.loaded c b.tables })
      pub keeps_set :
          (v : ℕ) (x : C) (z : Z) (c : ℕ → C) (b : Kept) → IsVariable v → IsFitContents v x → Keeps z c b →
          Keeps z (put c v x) (record b { tables = m.controls.set v x b.tables })
      -- both change what the monitor's tables hold, and under other names nothing
      pub loads_others : (c : ℕ → C) (held : Tables) (x : List ℕ) → table_named m.tables x ≡ None → m.controls.loaded c held x ≡ held x
      pub sets_others : (v : ℕ) (x : C) (held : Tables) (y : List ℕ) → table_named m.tables y ≡ None → m.controls.set v x held y ≡ held y
      -- the cells of a sensor's register are the sensor's, xor its initial value
      pub shown : (z : Z) (c : ℕ → C) (b : Kept) → Keeps z c b → All (λ x. cells_of b x.name ≡ map (xor_with x.initial) (x.cells z)) m.sensors
