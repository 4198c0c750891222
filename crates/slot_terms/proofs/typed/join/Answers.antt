use Rattle.std.proofs.Common.{subst, refl}
use Rattle.bit_values.specs.Bits.{IsWord}
use Rattle.bit_values.specs.Operators.{concat_words}
use Rattle.slot_terms.specs.Terms.{eval, term_of}
use Rattle.slot_terms.proofs.MaskedLemmas.{joined_right, unjoined_right, given_two}
use Rattle.slot_terms.proofs.typed.join.Goals as goal

pub returns-in_ok-term : goal.returns-in_ok-term
returns-in_ok-term c slots headers x y g h =
    given_two _ _ _ concat_words c.in_ok-term.ensures g h
    (joined_right c.args.a.width c.args.b.width (eval slots headers (term_of c.args.a.term)) (eval slots headers (term_of c.args.b.term)) c.if-a-b.true
    (subst IsWord g.is g.word).wide (subst IsWord g.is g.word) (subst IsWord h.is h.word))

pub returns-else-a-b : goal.returns-else-a-b
returns-else-a-b c slots headers x y g h =
    given_two _ _ _ concat_words refl g h
    (unjoined_right c.args.a.width c.args.b.width (eval slots headers (term_of c.args.a.term)) (eval slots headers (term_of c.args.b.term)) c.if-a-b.false c.requires.narrow (subst IsWord h.is h.word))
