-- Monitors that are the sample but for one thing, each of which breaks a law. Read `Sample` before it.
use Rattle.std.specs.Prelude.{ℕ, List, [], ◌∷◌, ◌++◌, false, get_or, if◌then◌else◌, nat_eq}
use Rattle.bit_values.specs.Bits.{Word, word, invert, slice}
use Rattle.p4_tree.specs.Tree.{flag, path, inversion, binary, slice as taken, cast, Stmt, Stmts, assign, done, next, and_then}
use Rattle.p4_tree.specs.declared.statement.Op.TheVariants.{Equal}
use Rattle.p4_tree.specs.declared.statement.PTy.TheVariants as type
use Rattle.network_run.specs.PathMeaning.{Property}
use Rattle.monitor_laws.specs.Names.{mark_path, first_name, last_name}
use Rattle.monitor_laws.specs.Trees.{number, only_if}
use Rattle.monitor_laws.specs.Monitor.{Monitor}
use Rattle.monitor_laws.specs.MonitorLaws.{MonitorLaws}
use Rattle.sample_monitor.specs.Property.{Tele, pushed, byte_of, first_of, is_known, cell_of, counter_report, length_report, sample_property, IsFit, AreByteViews, OnlyZero, AreBytes}
use Rattle.sample_monitor.specs.Sample.{kind_path, five_path, counter_name, cell_name, checks, starts, variable, lookup, read_cell, turn_cell, report, write_cell, push, tell_count, check, holding, both_holding, sample, SampleKeeps}

-- the monitor keeps the laws, where a switch keeps what it keeps for the sample
abbrev pub IsLawful : Monitor Tele (List ℕ) (List Word) → Type 0
IsLawful m = MonitorLaws m IsFit SampleKeeps AreByteViews OnlyZero AreBytes

-- another property, or other statements
abbrev pub changed : Property Tele (List ℕ) (List Word) → (entry exit : ℕ → Stmts) → Monitor Tele (List ℕ) (List Word)
changed p entry exit = record sample { property = p; entry = entry; exit = exit }

-- a statement stands at the end of the entry part, or of the exit part
abbrev pub entry_with : Stmt → Monitor Tele (List ℕ) (List Word)
entry_with s = changed sample_property (λ n. and_then (sample.entry n) (next s done)) sample.exit

abbrev pub exit_with : Stmt → Monitor Tele (List ℕ) (List Word)
exit_with s = changed sample_property sample.entry (λ n. and_then (sample.exit n) (next s done))

-- an own header's field is written, in the entry part; the linker's flag and the mark, in the exit part
abbrev pub writes_header : Monitor Tele (List ℕ) (List Word)
writes_header = entry_with (assign 0 kind_path (number 8 0))

abbrev pub writes_flag : Monitor Tele (List ℕ) (List Word)
writes_flag = exit_with (assign 0 (last_name ∷ []) (flag 0 false))

abbrev pub writes_mark : Monitor Tele (List ℕ) (List Word)
writes_mark = exit_with (assign 0 mark_path (number 8 0))

-- init reads a flag, which is not set in the entry part
abbrev pub reads_flag : Monitor Tele (List ℕ) (List Word)
reads_flag =
    changed sample_property
    (λ n. lookup starts (next (only_if (binary 0 Equal (variable first_name) (number 1 1)) (next (assign 0 five_path (taken 0 (path 0 kind_path) 4 0)) done)) done))
    sample.exit

-- the header variable is taken to have 16 bits, of which the complement fills the upper ones; its field has 8
abbrev pub reads_wide : Monitor Tele (List ℕ) (List Word)
reads_wide =
    changed
    (record sample_property {
      init = λ h d. if is_known h then record d { tele = record d.tele { five = word 5 (slice (invert 16 (first_of h.view).value) 12 8) } } else d;
    })
    (λ n. lookup starts (next (only_if (binary 0 Equal (variable starts.found) (number 1 1)) (next (assign 0 five_path (taken 0 (cast 0 (type.Bit 16) (inversion 0 (path 0 kind_path))) 12 8)) done)) done))
    sample.exit

-- the values of a report stand the other way round, and the two reports do
abbrev pub swaps_values : Monitor Tele (List ℕ) (List Word)
swaps_values =
    changed sample_property sample.entry
    (λ n. next read_cell (next turn_cell (next (report 0 (variable first_name ∷ variable cell_name ∷ [])) (next write_cell (next (push n) (next tell_count (next check done)))))))

abbrev pub swaps_reports : Monitor Tele (List ℕ) (List Word)
swaps_reports =
    changed
    (record sample_property {
      telemetry = λ h d.
          record (sample_property.telemetry h d) {
            reports = d.reports ++ length_report (pushed (byte_of h.switch) d.tele).count ∷ counter_report (get_or d.sensors (cell_of d.tele) 0) h.first ∷ [];
          };
    })
    sample.entry sample.exit

-- a set changes one of the two tables, and a load fills one
abbrev pub sets_one : Monitor Tele (List ℕ) (List Word)
sets_one =
    record sample {
      controls = record { loaded = λ c held. both_holding (c 0) held; set = λ v ks held. if nat_eq v 0 then holding checks ks held else held };
    }

abbrev pub loads_one : Monitor Tele (List ℕ) (List Word)
loads_one =
    record sample {
      controls = record { loaded = λ c held. holding checks (c 0) held; set = λ v ks held. if nat_eq v 0 then both_holding ks held else held };
    }

-- the counter's cells are shown as the register has them
abbrev pub shows_cells : Monitor Tele (List ℕ) (List Word)
shows_cells = record sample { sensors = record { name = counter_name; cells = λ z. z; initial = 0 } ∷ [] }

-- the fill is 1
abbrev pub fills_one : Monitor Tele (List ℕ) (List Word)
fills_one = record sample { words = λ t. t.five ∷ word 3 1 ∷ t.count ∷ t.front ∷ t.back ∷ [] }
