use Rattle.std.proofs.Common.{◌∙◌, ap}
use Rattle.slot_controls.specs.Sums.{sum_behind}
use Rattle.slot_controls.proofs.BitSumLemmas.{whole_more}
use Rattle.slot_controls.proofs.sums.whole_sum.Goals as goal

pub returns : goal.returns
returns c more = ap (λ n. sum_behind n 0 0 more) c.ones_sum.ensures ∙ whole_more c.args.whole c.args.number more c.ranges.number.fits
