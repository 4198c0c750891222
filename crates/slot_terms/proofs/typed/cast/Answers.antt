use Rattle.std.proofs.Common.{subst, refl}
use Rattle.bit_values.specs.Bits.{IsWord}
use Rattle.bit_values.specs.Widths.{cast_word}
use Rattle.slot_terms.specs.Terms.{eval, term_of}
use Rattle.slot_terms.proofs.MaskedLemmas.{widened_right, narrowed_right, given}
use Rattle.slot_terms.proofs.typed.cast.Goals as goal

pub returns-then-a-width-clause-makes : goal.returns-then-a-width-clause-makes
returns-then-a-width-clause-makes c slots headers x g =
    given _ _ (cast_word c.args.width) refl g
    (widened_right c.args.a.width c.args.width (eval slots headers (term_of c.args.a.term)) c.if-a-width.true c.requires.narrow (subst IsWord g.is g.word))

pub returns-in_ok-term-clause-makes : goal.returns-in_ok-term-clause-makes
returns-in_ok-term-clause-makes c slots headers x g =
    given _ _ (cast_word c.args.width) c.in_ok-term.ensures g
    (narrowed_right c.args.width c.args.a.width (eval slots headers (term_of c.args.a.term)) c.mask-mask.result c.mask-mask.ensures c.requires.wide c.requires.narrow (subst IsWord g.is g.word))
