use Rattle.p4_decls.proofs.OneAnswer.{one_refusal}
use Rattle.p4_decls.proofs.laws.one_refusal.Goals as goal

pub returns : goal.returns
returns c = one_refusal
