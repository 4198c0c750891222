use Rattle.std.proofs.Common.{subst}
use Rattle.bit_values.specs.Bits.{IsWord}
use Rattle.bit_values.specs.Operators.{operate}
use Rattle.slot_terms.specs.Terms.{eval, term_of}
use Rattle.slot_terms.proofs.MaskedLemmas.{operated_right, given_two}
use Rattle.slot_terms.proofs.typed.operated.Goals as goal

pub returns : goal.returns
returns c slots headers x y g h =
    given_two _ _ _ (operate c.args.op) c.in_ok-term.ensures g h
    (rw c.width_behind.ensures
    (operated_right c.args.op c.args.a.width c.args.b.width (eval slots headers (term_of c.args.a.term)) (eval slots headers (term_of c.args.b.term)) c.mask-mask.result c.mask-mask.ensures
    (subst IsWord g.is g.word) (subst IsWord h.is h.word) c.requires.alike c.requires.other))
