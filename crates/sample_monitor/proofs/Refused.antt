-- Each wrong monitor breaks a law: on a switch and a packet that the law speaks of, two words or numbers would be one.
use Rattle.std.proofs.Common.{◌≡◌, ℕ, ◌<◌, List, [], ◌∷◌, map, length, get_or, refl, sym, ap, subst, arith}
use Rattle.std.proofs.lemmas.List.Elements.{All-head}
use Rattle.bit_values.specs.Bits.{Word, word}
use Rattle.p4_tree.specs.Tree.{Stmts}
use Rattle.p4_meaning.specs.Statements.{Digest, meaning_of}
use Rattle.p4_meaning.specs.Parsing.{Field}
use Rattle.p4_meaning.specs.Tables.{Entries, tables_before}
use Rattle.p4_meaning.specs.Pass.{start_cells}
use Rattle.network_run.specs.PathMeaning.{Property, Reads, nothing_yet, exit_part}
use Rattle.linkage.specs.Linkage.{SensorRegister, xor_with}
use Rattle.switch_machines.specs.Programs.{cells_of}
use Rattle.monitor_laws.specs.Names.{mark_path, last_name}
use Rattle.monitor_laws.specs.Telemetry.{HasWords, zeros}
use Rattle.monitor_laws.specs.Monitor.{Monitor, fields_of}
use Rattle.monitor_laws.specs.MonitorLaws.{MeansTops, StandsFor, Does}
use Rattle.sample_monitor.specs.Property.{Tele, sample_property, IsFit, AreBytes}
use Rattle.sample_monitor.specs.Sample.{kind_path, counter_name, sample, SampleKeeps}
use Rattle.sample_monitor.specs.Example.{example_tele, example_cells, example_set, example_reads, entry_reads, example_run, example_tables, example_calls}
use Rattle.sample_monitor.specs.Wrong.{IsLawful, changed, writes_header, writes_flag, writes_mark, reads_flag, reads_wide, swaps_values, swaps_reports, sets_one, loads_one, shows_cells, fills_one}

-- what the switch keeps, and the packet's tele values
example_kept : SampleKeeps example_cells (λ v. example_set) (record { registers = (example_run 0).cells; tables = example_tables })
example_kept = record { cells = refl; count = refl; bytes = (omega arith, (omega arith, (omega arith, (omega arith, tt)))); checked = refl; started = refl }

example_bytes : AreBytes 0 example_set
example_bytes = (record { width = refl; low = omega arith }, (record { width = refl; low = omega arith }, tt))

example_fits : IsFit example_tele
example_fits = record { width = refl; low = omega arith; count = record { width = refl; low = omega arith }; few = omega arith; front = record { width = refl; low = omega arith }; back = record { width = refl; low = omega arith } }

module _ (p : Property Tele (List ℕ) (List Word)) (f g : ℕ → Stmts) (laws : IsLawful (changed p f g)) (k : ℕ) (low : k < 256) where
  abbrev m : Monitor Tele (List ℕ) (List Word)
  m = changed p f g

  tops : MeansTops m IsFit SampleKeeps example_tables example_calls
  tops = record { actions = λ x es r i. refl; tables = λ x r i. refl }

  stands : (h : Reads (List Word)) (vars : List Field) → h.contents ≡ (λ v. example_set) → h.view ≡ word 8 k ∷ [] → HasWords [] vars (zeros vars) (example_run k).store → StandsFor m IsFit SampleKeeps vars example_tables (example_run k) h example_tele example_cells
  stands h vars contents view fresh =
      record {
        tele = record { plain = refl; standard = refl; valid = refl; mark = refl; words = (refl, (refl, (refl, (refl, (refl, tt))))); fits = example_fits };
        keeps = subst (λ c. SampleKeeps example_cells c (record { registers = (example_run k).cells; tables = example_tables })) (sym contents) example_kept;
        view = sym view;
        fresh = fresh;
      }

  -- what the laws say of the two parts
  pub entry_law : Does m IsFit SampleKeeps example_tables (example_run k) (meaning_of example_calls (f 258) (example_run k)) (λ v. example_set) (p.init (entry_reads k) (nothing_yet example_tele example_cells))
  entry_law = laws.entry example_calls example_tables tops (example_run k) (entry_reads k) example_tele example_cells refl refl (record { width = refl; low = low }, tt) (stands (entry_reads k) (fields_of sample.entry_locals) refl refl (refl, (refl, tt)))

  pub exit_law : Does m IsFit SampleKeeps example_tables (example_run k) (meaning_of example_calls (g 258) (example_run k)) (λ v. example_set) (exit_part p (example_reads k) example_tele example_cells)
  exit_law = laws.exit example_calls example_tables tops (example_run k) (example_reads k) example_tele example_cells (record { is_first = refl; is_last = refl; is_rejected = refl }) (record { width = refl; low = low }, tt) (stands (example_reads k) (fields_of sample.exit_locals) refl refl (refl, (refl, (refl, tt))))

-- ---- what each breaks

pub header_refused : IsLawful writes_header → ⊥
header_refused laws =
    let law = entry_law sample_property writes_header.entry sample.exit laws 40 (omega arith) in
    let same : 0 ≡ 40 = ap (λ (w : Word). w.value) (law.others.values kind_path refl) in
    absurd (omega (arith, same))

pub flag_refused : IsLawful writes_flag → ⊥
flag_refused laws =
    let law = exit_law sample_property sample.entry writes_flag.exit laws 40 (omega arith) in
    let same : 0 ≡ 1 = ap (λ (w : Word). w.value) (law.others.values (last_name ∷ []) refl) in
    absurd (omega (arith, same))

pub mark_refused : IsLawful writes_mark → ⊥
mark_refused laws =
    let law = exit_law sample_property sample.entry writes_mark.exit laws 40 (omega arith) in
    let same : 0 ≡ 72 = ap (λ (w : Word). w.value) (law.others.values mark_path refl) in
    absurd (omega (arith, same))

-- the flag is not set, so that the five bits of 40 are not taken
pub first_refused : IsLawful reads_flag → ⊥
first_refused laws =
    let law = entry_law sample_property reads_flag.entry sample.exit laws 40 (omega arith) in
    let same : 19 ≡ 8 = ap (λ (w : Word). w.value) law.words.0 in
    absurd (omega (arith, same))

-- the upper bits of what P4 complements are 0
pub wide_refused : IsLawful reads_wide → ⊥
wide_refused laws =
    let law = entry_law reads_wide.property reads_wide.entry sample.exit laws 40 (omega arith) in
    let same : 0 ≡ 31 = ap (λ (w : Word). w.value) law.words.0 in
    absurd (omega (arith, same))

-- the width of a report's second value
abbrev second_width : List Digest → ℕ
second_width ds = (get_or (get_or ds 0 (record { receiver = 0; values = [] })).values 1 (word 0 0)).width

pub values_refused : IsLawful swaps_values → ⊥
values_refused laws =
    let law = exit_law sample_property sample.entry swaps_values.exit laws 40 (omega arith) in
    let same : 1 ≡ 8 = ap second_width law.reports in
    absurd (omega (arith, same))

-- the number of the first report
abbrev first_number : List Digest → ℕ
first_number ds = (get_or (get_or ds 0 (record { receiver = 0; values = [] })).values 0 (word 0 0)).value

pub reports_refused : IsLawful swaps_reports → ⊥
reports_refused laws =
    let law = exit_law swaps_reports.property sample.entry sample.exit laws 40 (omega arith) in
    let same : 0 ≡ 1 = ap first_number law.reports in
    absurd (omega (arith, same))

-- the other table has the old members
pub set_refused : IsLawful sets_one → ⊥
set_refused laws =
    let law = laws.keeps_set 0 [] example_cells (λ v. example_set) (record { registers = (example_run 0).cells; tables = example_tables }) refl tt example_kept in
    let same : 2 ≡ 0 = ap (λ (n : Entries). length n.listed) law.started in
    absurd (omega (arith, same))

pub load_refused : IsLawful loads_one → ⊥
load_refused laws =
    let law = laws.keeps_start (λ v. example_set) (record { registers = start_cells sample.registers; tables = tables_before [] }) (λ v i. example_bytes) (λ x i. refl) in
    let same : 0 ≡ 2 = ap (λ (n : Entries). length n.listed) law.started in
    absurd (omega (arith, same))

pub cells_refused : IsLawful shows_cells → ⊥
cells_refused laws =
    let P : SensorRegister (List ℕ) (List ℕ) → Type 0 = λ x. cells_of (record { registers = (example_run 0).cells; tables = example_tables }) x.name ≡ map (xor_with x.initial) (x.cells example_cells) in
    let shown = All-head P (record { name = counter_name; cells = λ z. z; initial = 0 }) [] (laws.shown example_cells (λ v. example_set) (record { registers = (example_run 0).cells; tables = example_tables }) example_kept) in
    let same : 0 ≡ 7 = ap (λ (ns : List ℕ). get_or ns 0 0) shown in
    absurd (omega (arith, same))

pub fill_refused : IsLawful fills_one → ⊥
fill_refused laws =
    let same : 1 ≡ 0 = ap (λ (ws : List Word). (get_or ws 1 (word 0 0)).value) laws.start_zero in
    absurd (omega (arith, same))
