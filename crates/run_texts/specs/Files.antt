-- What a run of linked programs writes, byte by byte. Read the files before it, `Captures` of run_captures, and `Texts` of
-- report_writer.
use Rattle.std.specs.Prelude.{ℕ, ◌-◌, List, [], ◌∷◌, ◌++◌, length, map, codes}
use Rattle.bit_values.specs.Bits.{cast}
use Rattle.indus_tree.specs.Tree.{Decl}
use Rattle.indus_tree.specs.State.{Contents}
use Rattle.p4_tree.specs.Tree.{Program}
use Rattle.p4_meaning.specs.Pass.{Kept, Queued}
use Rattle.network_run.specs.Network.{Net, Sent}
use Rattle.run_captures.specs.Captures.{Time, Front, switches_files}
use Rattle.report_writer.specs.Texts.{Counts, cells_of, summary_of}
use Rattle.loaded_tables.specs.Rows.{Row}
use Rattle.run_texts.specs.Programs.{programs_files}
use Rattle.run_texts.specs.Tables.{tables_lines}
use Rattle.run_texts.specs.Told.{reports_lines, digests_lines, reports_in}
use Rattle.run_texts.specs.Registers.{switches_cells, rejected_from}

-- the network of the linked programs at the end of a run
abbrev pub Run : Type 0
Run = Net Kept Queued Contents

-- ---- the summary

-- how many packets the switches of these programs count as rejected. There are at most 100,000 packets, so it fits into 32
-- bits
abbrev pub rejected_in : List Program → Run → ℕ
rejected_in ps w = cast 32 (rejected_from ps w.switches 0)

-- dropped are those that were not rejected
abbrev pub counts_of : List Program → (packets : ℕ) → Run → Counts
counts_of ps n w =
    record {
      packets = n;
      sent = length w.edges;
      dropped = length w.dropped - rejected_in ps w;
      rejected = rejected_in ps w;
      lost = length w.lost;
      reports = reports_in w.told;
    }

abbrev pub summary_text_of : List Program → (packets : ℕ) → Run → List ℕ
summary_text_of ps n w = summary_of (counts_of ps n w)

-- ---- the files

-- the programs, and the tables in them that hold control variables
abbrev pub linked_files :
    (out : List ℕ) → List Program → List Row → List Decl → (names : List (List ℕ)) → List (List ℕ × List ℕ)
linked_files o ps rows ds ns = programs_files o ps ns ++ (o ++ codes ".tables.txt", tables_lines ds rows) ∷ []

-- frames that switches sent, on links (`wire`) or by edge ports (`out`): a file for each port by which there is one
abbrev pub sent_files :
    (out kind : List ℕ) → List Time → List Sent → (names : List (List ℕ)) → List (List ℕ × List ℕ)
sent_files o k ts xs ns = switches_files (record { out = o; kind = k }) ts xs 0 ns

-- what was told, the registers and the summary
abbrev pub texts_of :
    (out : List ℕ) → List Program → (names : List (List ℕ)) → (packets : ℕ) → Run → List (List ℕ × List ℕ)
texts_of o ps ns n w =
    (o ++ codes ".reports.txt", reports_lines ns w.told)
    ∷ (o ++ codes ".digests.txt", digests_lines ns w.told)
    ∷ (o ++ codes ".registers.txt", cells_of (switches_cells ps w.switches 0 ns))
    ∷ (o ++ codes ".summary.txt", summary_text_of ps n w)
    ∷ []

-- of a run of so many packets with these times, all files in their order. `names` are those of the switches, in the network's
-- order, and `programs` theirs
abbrev pub files_of_run :
    (out : List ℕ) → (programs : List Program) → List Row → List Decl → (names : List (List ℕ)) → List Time → (packets : ℕ) → Run →
    List (List ℕ × List ℕ)
files_of_run o ps rows ds ns ts n w =
    linked_files o ps rows ds ns
    ++ (sent_files o (codes "wire") ts (map (λ x. x.sent) w.wires) ns
    ++ (sent_files o (codes "out") ts w.edges ns ++ texts_of o ps ns n w))
