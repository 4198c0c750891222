use Rattle.std.proofs.Common.{sym, ap, ◌∙◌}
use Rattle.slot_terms.specs.declared.typed.Typed.{Typed}
use Rattle.slot_parser_codes.proofs.LoopLemmas.{width_within, width_past}
use Rattle.slot_parser_codes.proofs.selects.width_at.Goals as goal

pub returns-then-i-terms : goal.returns-then-i-terms
returns-then-i-terms c = ap (λ (t : Typed). t.width) (sym c.index-terms-i.is) ∙ width_within c.args.terms.now c.args.i c.index-terms-i.result c.if-i-terms.true c.index-terms-i.is

pub returns-else-i-terms : goal.returns-else-i-terms
returns-else-i-terms c = width_past c.args.terms.now c.args.i c.if-i-terms.false
