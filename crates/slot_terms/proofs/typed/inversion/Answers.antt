use Rattle.std.proofs.Common.{subst}
use Rattle.bit_values.specs.Bits.{IsWord}
use Rattle.p4_meaning.specs.Value.{inverted}
use Rattle.slot_terms.specs.Terms.{eval, term_of}
use Rattle.slot_terms.proofs.MaskedLemmas.{inverted_right, given}
use Rattle.slot_terms.proofs.typed.inversion.Goals as goal

pub returns : goal.returns
returns c slots headers x g =
    given _ _ inverted c.in_ok-term.ensures g (inverted_right c.args.a.width (eval slots headers (term_of c.args.a.term)) c.mask-mask.result c.mask-mask.ensures (subst IsWord g.is g.word))
