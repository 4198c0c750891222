-- A switch and a packet by hand, for worked rows. In the exit part the packet is at its last hop, and not at its first.
use Rattle.std.specs.Prelude.{codes, ℕ, List, [], ◌∷◌, map, true, false}
use Rattle.bit_values.specs.Bits.{Word, word}
use Rattle.bit_values.specs.Widths.{bit}
use Rattle.p4_meaning.specs.Store.{Store, blank, set_value, set_valid}
use Rattle.p4_meaning.specs.Statements.{Run, Calls}
use Rattle.p4_meaning.specs.Tables.{Tables, tables_before, calls_in}
use Rattle.network_run.specs.PathMeaning.{Reads}
use Rattle.monitor_laws.specs.Names.{tele_header, mark_path, last_name, first_name, rejected_name}
use Rattle.monitor_laws.specs.Telemetry.{mark_word}
use Rattle.sample_monitor.specs.Property.{Tele}
use Rattle.sample_monitor.specs.Sample.{kind_path, tele_path, five_path, count_path, front_path, back_path, cell_name, checks, starts, both_holding, sample, kept_cell}

-- 19 is 10011 in binary, so the packet counts in the cell 3, the last one
abbrev pub example_tele : Tele
example_tele = record { five = word 5 19; count = word 8 2; front = word 8 5; back = word 8 9 }

abbrev pub example_cells : List ℕ
example_cells = 7 ∷ 8 ∷ 9 ∷ 255 ∷ []

-- the set has 1 and 40
abbrev pub example_set : List Word
example_set = word 8 1 ∷ word 8 40 ∷ []

-- the switch has the number 258, which is 2 modulo 256
abbrev pub example_reads : (kind : ℕ) → Reads (List Word)
example_reads k = record { switch = 258; first = false; last = true; view = word 8 k ∷ []; contents = λ v. example_set }

-- the same in the entry part, at the first hop
abbrev pub entry_reads : (kind : ℕ) → Reads (List Word)
entry_reads k = record (example_reads k) { first = true; last = false }

-- the variables of both parts are 0
abbrev pub example_store : (kind : ℕ) → Store
example_store k =
    set_valid (set_value (set_value (set_value (set_value (set_value (set_value (set_value (set_value (set_value (set_value (set_value (set_value (set_value (set_value (set_value blank
    kind_path (word 8 k))
    mark_path (mark_word 72))
    five_path (word 5 19))
    (tele_path (codes "hydra_fill")) (word 3 0))
    count_path (word 8 2))
    front_path (word 8 5))
    back_path (word 8 9))
    (first_name ∷ []) (bit false))
    (last_name ∷ []) (bit true))
    (rejected_name ∷ []) (bit false))
    (cell_name ∷ []) (word 8 0))
    (checks.key ∷ []) (word 8 0))
    (checks.found ∷ []) (word 1 0))
    (starts.key ∷ []) (word 8 0))
    (starts.found ∷ []) (word 1 0))
    tele_header true

abbrev pub example_run : (kind : ℕ) → Run
example_run k = record { store = example_store k; cells = λ x. map kept_cell example_cells; digests = [] }

abbrev pub example_tables : Tables
example_tables = both_holding example_set (tables_before [])

abbrev pub example_calls : Calls
example_calls = calls_in sample.actions sample.tables example_tables
