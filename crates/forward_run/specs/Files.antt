-- What `forward` writes of a run, byte by byte. Read `Run`, `Captures` of run_captures, `Texts` of report_writer and `Rows`
-- of forward_texts before it.
use Rattle.std.specs.Prelude.{◌≡◌, ℕ, List, [], ◌∷◌, ◌++◌, length, map, codes}
use Rattle.p4_meaning.specs.Pass.{Kept, Queued}
use Rattle.indus_tree.specs.State.{Contents}
use Rattle.network_run.specs.Network.{Net}
use Rattle.report_writer.specs.Texts.{Counts, reports_of, cells_of, summary_of}
use Rattle.run_captures.specs.Captures.{switches_files}
use Rattle.job_course.specs.Output.{Out}
use Rattle.forward_texts.specs.Rows.{report_of, switches_cells}
use Rattle.forward_run.specs.Job.{Job}
use Rattle.forward_run.specs.Run.{run_of}

-- ---- the summary

-- nothing is rejected or reported where there is no property
abbrev pub counts_of : (packets : ℕ) → Net Kept Queued Contents → Counts
counts_of packets w = record { packets = packets; sent = length w.edges; dropped = length w.dropped; rejected = 0; lost = length w.lost; reports = 0 }

-- ---- the files

-- those behind the captures
abbrev pub texts_of : (out : List ℕ) → Job → Net Kept Queued Contents → List (List ℕ × List ℕ)
texts_of o j w =
    (o ++ codes ".digests.txt", reports_of (map (report_of j.network.names) w.told))
    ∷ (o ++ codes ".registers.txt", cells_of (switches_cells j.program w.switches 0 j.network.names))
    ∷ (o ++ codes ".summary.txt", summary_of (counts_of (length j.packets) w))
    ∷ []

-- the capture of each edge port by which a frame left, and the texts
abbrev pub files_of_run : (out : List ℕ) → Job → Net Kept Queued Contents → List (List ℕ × List ℕ)
files_of_run o j w = switches_files (record { out = o; kind = codes "out" }) j.times w.edges 0 j.network.names ++ texts_of o j w

-- of `forward`: the files of the run, and the summary for the sink
pub record IsForwardOutput (j : Job) (out : List ℕ) (given : Out) : Type 0 where
  pub files : given.files ≡ files_of_run out j (run_of j)
  pub text : given.text ≡ summary_of (counts_of (length j.packets) (run_of j))
