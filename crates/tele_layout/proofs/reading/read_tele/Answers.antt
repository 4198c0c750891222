use Rattle.std.proofs.Common.{◌≡◌, ◌<◌, take, sym, ap, ◌∙◌, arith}
use Rattle.bit_values.specs.Bits.{Word}
use Rattle.bit_values.specs.BitLists.{number_of}
use Rattle.bit_values.specs.Bytes.{bits_of}
use Rattle.tele_layout.proofs.WholeLemmas.{are_bytes, tele_mark, found_if, only_if}
use Rattle.tele_layout.proofs.reading.read_tele.Goals as goal

pub returns-then-take_bits-l-clause-only : goal.returns-then-take_bits-l-clause-only
returns-then-take_bits-l-clause-only c = λ t fit e.
    let low : c.args.l.now.first < 256 = omega arith in
    absurd (c.if-take_bits-l.true (ap (λ (w : Word). w.value) (c.take_bits-2.view_is ∙ c.take_bits.ensures.number) ∙ tele_mark c.args.l.now c.args.buf.now t c.requires.layout low fit e))

pub returns-clause-found : goal.returns-clause-found
returns-clause-found c =
    let mark : number_of (take 8 (bits_of c.args.buf.now)) ≡ c.args.l.now.first = sym (ap (λ (w : Word). w.value) (c.take_bits-2.view_is ∙ c.take_bits.ensures.number)) ∙ c.if-take_bits-l.false in
    found_if c.args.l.now c.args.buf.now c.deref.result.now c.read_slots.result c.requires.layout (are_bytes c.args.buf.now c.type_inv.buf) c.requires.size mark c.deref.ensures.value c.read_slots.ensures

pub returns-clause-only : goal.returns-clause-only
returns-clause-only c = only_if c.args.l.now c.args.buf.now c.deref.result.now c.read_slots.result c.requires.layout c.deref.ensures.value c.read_slots.ensures
