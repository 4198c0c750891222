use Rattle.slot_deparsers.proofs.EmitLemmas.{deparsers_emit}
use Rattle.slot_deparsers.proofs.laws.deparsers_emit.Goals as goal

pub returns : goal.returns
returns c = deparsers_emit
