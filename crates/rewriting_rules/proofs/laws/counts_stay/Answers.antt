use Rattle.p4_typing_laws.proofs.Fine.{typed_fine}
use Rattle.rewriting_rules.proofs.Programs.{digests_same, headers_same, cells_same}
use Rattle.rewriting_rules.proofs.laws.counts_stay.Goals as goal

pub returns : goal.returns
returns c = record { digests = λ p q r h. digests_same p q r (typed_fine p h); headers = headers_same; registers = cells_same }
