use Rattle.p4_typing_laws.proofs.AlongRuns as along
use Rattle.p4_typing_laws.proofs.laws.stores_fit.Goals as goal

pub returns : goal.returns
returns c = along.stores_fit
