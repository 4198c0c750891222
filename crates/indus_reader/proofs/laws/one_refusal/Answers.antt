use Rattle.indus_reader.proofs.OneAnswer.{one_refusal}
use Rattle.indus_reader.proofs.laws.one_refusal.Goals as goal

pub returns : goal.returns
returns c = one_refusal
