-- What a state counts. Read `Files` of run_texts before it.
use Rattle.std.specs.Prelude.{ℕ, ◌-◌, length}
use Rattle.report_writer.specs.Texts.{Counts}
use Rattle.path_runner.specs.Nets.{Traffic}
use Rattle.run_texts.specs.Told.{reports_in}

-- of so many packets, where the switches count so many as rejected
abbrev pub counts_in : (packets rejected : ℕ) → Traffic → Counts
counts_in n r t =
    record {
      packets = n;
      sent = length t.edges;
      dropped = t.dropped - r;
      rejected = r;
      lost = t.lost;
      reports = reports_in t.told;
    }
