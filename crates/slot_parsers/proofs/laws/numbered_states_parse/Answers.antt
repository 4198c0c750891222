use Rattle.slot_parsers.proofs.TurnLemmas.{parses}
use Rattle.slot_parsers.proofs.laws.numbered_states_parse.Goals as goal

pub returns : goal.returns
returns c = parses
