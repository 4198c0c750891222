use Rattle.std.proofs.Common.{◌<◌, ◌+◌, ◌^◌, sym, subst, arith}
use Rattle.bit_values.proofs.BitsLemmas.{concat-lt}
use Rattle.bit_values.proofs.WideLemmas.{concat_wide}
use Rattle.slot_controls.proofs.sums.joined.Goals as goal

pub returns-clause-value : goal.returns-clause-value
returns-clause-value c = concat_wide c.args.width c.args.count c.args.part c.args.value (omega (arith, c.requires.few)) c.requires.high c.requires.low

pub returns-clause-in_range : goal.returns-clause-in_range
returns-clause-in_range c =
    subst (λ n. n < 2 ^ (c.args.width + c.args.count)) (sym (concat_wide c.args.width c.args.count c.args.part c.args.value (omega (arith, c.requires.few)) c.requires.high c.requires.low))
    (concat-lt c.args.width c.args.count c.args.part c.args.value c.requires.high c.requires.low)
