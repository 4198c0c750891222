use Rattle.std.proofs.Common.{◌+◌, ◌-◌, ◌≤◌, arith}
use Rattle.bit_values.proofs.WideLemmas.{concat_wide}
use Rattle.slot_packets.proofs.bytes.with_bits.Goals as goal

pub returns : goal.returns
returns c =
    let total : 128 - c.args.bits + c.args.bits ≤ 128 = omega (arith, c.requires.few) in
    concat_wide (128 - c.args.bits) c.args.bits c.args.value c.args.low total c.requires.high c.requires.low
