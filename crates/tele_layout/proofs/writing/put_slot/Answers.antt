use Rattle.std.proofs.Common.{length, arith}
use Rattle.tele_layout.proofs.WritingLemmas.{list_end}
use Rattle.tele_layout.proofs.writing.put_slot.Goals as goal

pub put_zeros-requires-clause-within : goal.put_zeros-requires-clause-within
put_zeros-requires-clause-within c =
    let s = c.args.slot in
    let e = list_end s.width s.count (length c.args.values.now) s.at c.if-slot-eq0.false c.requires.fits.used in
    omega (arith, e, c.put_numbers-end.ensures.end, c.requires.within, c.put_numbers-end.auto.buf, c.put_bits.auto.buf)

pub returns-clause-end : goal.returns-clause-end
returns-clause-end c =
    let s = c.args.slot in
    let e = list_end s.width s.count (length c.args.values.now) s.at c.if-slot-eq0.false c.requires.fits.used in
    omega (arith, e, c.put_numbers-end.ensures.end)
