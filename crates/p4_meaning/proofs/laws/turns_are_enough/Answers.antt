use Rattle.p4_meaning.proofs.Turns.{one_turn_more}
use Rattle.p4_meaning.proofs.laws.turns_are_enough.Goals as goal

pub returns : goal.returns
returns c = λ hs n sts x s h. one_turn_more hs n sts x s h
