use Rattle.exit_rules.proofs.WellTyped.{bytes_same, cells_same, digests_same}
use Rattle.exit_rules.proofs.laws.counts_stay.Goals as goal

pub returns : goal.returns
returns c = record { digests = digests_same; headers = λ p w g. bytes_same p; cells_same = λ p w g. cells_same p }
