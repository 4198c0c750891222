use Rattle.std.proofs.Common.{subst}
use Rattle.bit_values.specs.Bits.{IsWord}
use Rattle.p4_meaning.specs.Value.{sliced}
use Rattle.slot_terms.specs.Terms.{eval, term_of}
use Rattle.slot_terms.proofs.MaskedLemmas.{sliced_right, given}
use Rattle.slot_terms.proofs.typed.slice.Goals as goal

pub returns : goal.returns
returns c slots headers x g =
    given _ _ (sliced c.args.width c.args.low) c.in_ok-term.ensures g
    (sliced_right c.args.width c.args.a.width (eval slots headers (term_of c.args.a.term)) c.args.low c.mask-mask.result c.mask-mask.ensures c.requires.wide c.requires.narrow (subst IsWord g.is g.word))
