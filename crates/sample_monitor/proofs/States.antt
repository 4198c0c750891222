-- What holds between two statements of a part: the telemetry, the variables, the counter and the reports so far.
use Rattle.std.proofs.Common.{◌≡◌, ℕ, List, [], ◌∷◌, ◌++◌, map, Bool, true, Some, None, refl, ap, ap₂, ◌∙◌, append_assoc}
use Rattle.std.specs.List.{filter}
use Rattle.std.proofs.lemmas.List.Elements.{filter-append}
use Rattle.bit_values.specs.Bits.{Word}
use Rattle.bit_values.specs.Widths.{sound_width, cast_word}
use Rattle.lex_text.specs.Names.{parent}
use Rattle.p4_tree.specs.Tree.{Expr, assign}
use Rattle.p4_meaning.specs.Store.{read, shown, set_value}
use Rattle.p4_meaning.specs.Value.{value_of}
use Rattle.p4_meaning.specs.Statements.{Go, Digest, Run, Ended, in_store, put_cells, assigned, Tested, Calls, meaning_of_stmt}
use Rattle.p4_meaning.specs.Parsing.{Field}
use Rattle.p4_meaning.specs.Tables.{test_behind}
use Rattle.own_code.specs.Relations.{is_report}
use Rattle.monitor_laws.specs.Names.{tele_header, is_lowered}
use Rattle.monitor_laws.specs.Telemetry.{HasWords}
use Rattle.monitor_laws.specs.MonitorLaws.{Others}
use Rattle.sample_monitor.specs.Property.{Tele}
use Rattle.sample_monitor.specs.Sample.{kind_path, tele_path, counter_name, Lookup, apply, sample, kept_cell}
use Rattle.monitor_laws.proofs.Frames.{open_by, written_open, assignment}
use Rattle.sample_monitor.proofs.Steps.{others_path, others_cells, others_told, report_of, Ends, ends_with}
use Rattle.sample_monitor.proofs.Lookups.{found_in}

-- the run a has gone on to q
pub record At (vars : List Field) (a : Run) (t : Tele) (vs : List Word) (z : List ℕ) (ds : List Digest) (q : Run) : Type 0 where
  pub words : HasWords tele_header sample.fields (sample.words t) q.store
  pub variables : HasWords [] vars vs q.store
  pub others : Others a q
  pub cells : q.cells counter_name ≡ map kept_cell z
  pub reports : filter is_report q.digests ≡ filter is_report a.digests ++ ds

-- a path is set
pub at_set : (vars : List Field) (a : Run) (t t' : Tele) (vs vs' : List Word) (z : List ℕ) (ds : List Digest) (q : Run) (p : List (List ℕ)) (w : Word) → is_lowered p ≡ true → At vars a t vs z ds q →
    HasWords tele_header sample.fields (sample.words t') (set_value q.store p w) → HasWords [] vars vs' (set_value q.store p w) → At vars a t' vs' z ds (in_store q (set_value q.store p w))
at_set vars a t t' vs vs' z ds q p w i h words variables =
    record { words = words; variables = variables; others = others_path a q p w i h.others; cells = h.cells; reports = h.reports }

module _ (a : Run) (plain : a.store.headers [] ≡ None) (valid : a.store.headers tele_header ≡ Some true) where
  -- what is read between statements
  pub no_header : (q : Run) → Others a q → q.store.headers [] ≡ None
  no_header q o = ap (λ g. g []) o.headers ∙ plain

  pub tele_there : (q : Run) → Others a q → q.store.headers tele_header ≡ Some true
  tele_there q o = ap (λ g. g tele_header) o.headers ∙ valid

  pub kind_read : (q : Run) → Others a q → read q.store kind_path ≡ read a.store kind_path
  kind_read q o = ap₂ shown (ap (λ g. g (parent kind_path)) o.headers) (o.values kind_path refl)

  pub variable_read : (q : Run) (x : List ℕ) (v : Word) → Others a q → q.store.values (x ∷ []) ≡ v → read q.store (x ∷ []) ≡ v
  variable_read q x v o h = ap₂ shown (no_header q o) h

  pub field_read : (q : Run) (x : List ℕ) (v : Word) → Others a q → q.store.values (tele_path x) ≡ v → read q.store (tele_path x) ≡ v
  field_read q x v o h = ap₂ shown (tele_there q o) h

  -- a variable is set, and a field
  pub sets_variable : (calls : Calls) (R : Run → Type 0) (q : Run) (x : List ℕ) (e : Expr) (u v : Word) → Others a q → q.store.values (x ∷ []) ≡ u → value_of e u.width q.store ≡ v → R (in_store q (set_value q.store (x ∷ []) (cast_word (sound_width u.width) v))) → Ends R (meaning_of_stmt calls (assign 0 (x ∷ []) e) q)
  sets_variable calls R q x e u v o old is h =
      ends_with R _ _ (assignment calls q 0 (x ∷ []) e u v refl (open_by (q.store.headers []) None (no_header q o) tt) old is) (record { run = h; goes = refl })

  pub sets_field : (calls : Calls) (R : Run → Type 0) (q : Run) (x : List ℕ) (e : Expr) (u v : Word) → Others a q → q.store.values (tele_path x) ≡ u → value_of e u.width q.store ≡ v → R (in_store q (set_value q.store (tele_path x) (cast_word (sound_width u.width) v))) → Ends R (meaning_of_stmt calls (assign 0 (tele_path x) e) q)
  sets_field calls R q x e u v o old is h =
      ends_with R _ _ (assignment calls q 0 (tele_path x) e u v refl (open_by (q.store.headers tele_header) (Some true) (tele_there q o) tt) old is) (record { run = h; goes = refl })

  -- a word that is no expression's is written to a variable
  pub writes_variable : (q : Run) (x : List ℕ) (u w : Word) → Others a q → q.store.values (x ∷ []) ≡ u → assigned q.store (x ∷ []) w ≡ set_value q.store (x ∷ []) (cast_word (sound_width u.width) w)
  writes_variable q x u w o old =
      written_open (q.store.headers []) q.store (x ∷ []) _ (open_by (q.store.headers []) None (no_header q o) tt)
      ∙ ap (λ (v : Word). set_value q.store (x ∷ []) (cast_word (sound_width v.width) w)) old

-- a report is told
pub at_told : (vars : List Field) (a : Run) (t : Tele) (vs : List Word) (z : List ℕ) (ds : List Digest) (q : Run) (ws : List Word) → At vars a t vs z ds q → At vars a t vs z (ds ++ report_of ws ∷ []) (record q { digests = q.digests ++ report_of ws ∷ [] })
at_told vars a t vs z ds q ws h =
    record {
      words = h.words;
      variables = h.variables;
      others = others_told a q ws h.others;
      cells = h.cells;
      reports = filter-append is_report q.digests (report_of ws ∷ []) ∙ ap (λ (l : List Digest). l ++ report_of ws ∷ []) h.reports ∙ append_assoc (filter is_report a.digests) ds (report_of ws ∷ []);
    }

-- the counter has other cells
pub at_counted : (vars : List Field) (a : Run) (t : Tele) (vs : List Word) (z z' : List ℕ) (ds : List Digest) (q : Run) (ws : List Word) → ws ≡ map kept_cell z' → At vars a t vs z ds q → At vars a t vs z' ds (record q { cells = put_cells q.cells counter_name ws })
at_counted vars a t vs z z' ds q ws is h =
    record { words = h.words; variables = h.variables; others = others_cells a q counter_name ws refl h.others; cells = is; reports = h.reports }

-- a table is applied
pub applies_it : (calls : Calls) (R : Run → Type 0) (l : Lookup) (q : Run) (b : Bool) → calls.apply_table l.table q ≡ test_behind (found_in l b q, Go) b → R (found_in l b q) → Ends R (meaning_of_stmt calls (apply l) q)
applies_it calls R l q b is h = ends_with R _ _ (ap (λ (t : Tested). (let e : Ended = (t.run, t.flow) in e)) is) (record { run = h; goes = refl })
