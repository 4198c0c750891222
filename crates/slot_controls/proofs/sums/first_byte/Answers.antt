use Rattle.std.proofs.Common.{◌≡◌, ◌<◌, ◌+◌, ◌-◌, ◌^◌, subst, arith}
use Rattle.slot_controls.proofs.BitSumLemmas.{shr_below}
use Rattle.slot_controls.proofs.sums.first_byte.Goals as goal

pub returns-clause-in_range : goal.returns-clause-in_range
returns-clause-in_range c =
    let count : c.args.count ≡ 8 + (c.args.count - 8) = omega (arith, c.requires.whole) in
    shr_below c.args.part (c.args.count - 8) (subst (λ n. c.args.part < 2 ^ n) count c.requires.low)
