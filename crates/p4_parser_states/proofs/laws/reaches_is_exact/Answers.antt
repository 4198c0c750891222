use Rattle.p4_parser_states.proofs.Reaching.{reaches_sound, reaches_complete}
use Rattle.p4_parser_states.proofs.laws.reaches_is_exact.Goals as goal

pub returns : goal.returns
returns c = λ sts x y. (reaches_sound sts x y, reaches_complete sts x y)
