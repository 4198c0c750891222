use Rattle.std.proofs.Common.{◌≡◌, ◌%◌, arith}
use Rattle.slot_deparsers.proofs.RestLemmas.{copied}
use Rattle.slot_deparsers.proofs.rest.emit_bytes.Goals as goal

pub returns-clause-grown : goal.returns-clause-grown
returns-clause-grown c =
    let whole : c.args.at % 8 ≡ 0 = omega (arith, c.if-at-gt0.false) in
    copied c.args.buffer.now c.copy_bytes.new.buffer c.args.bytes.now c.args.at whole c.copy_bytes.ensures
