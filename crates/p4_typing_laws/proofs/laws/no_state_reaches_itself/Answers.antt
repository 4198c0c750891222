use Rattle.p4_typing_laws.proofs.Cycles.{no_cycle}
use Rattle.p4_typing_laws.proofs.laws.no_state_reaches_itself.Goals as goal

pub returns : goal.returns
returns c = no_cycle c.reaches_is_exact.ensures
