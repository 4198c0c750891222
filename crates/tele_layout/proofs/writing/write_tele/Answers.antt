use Rattle.std.proofs.Common.{◌≡◌, ◌+◌, ◌-◌, ◌*◌, ◌++◌, ℕ, List, length, take, map, ap, ap₂, ◌∙◌, arith, subst, refl}
use Rattle.bit_values.specs.Bits.{Word}
use Rattle.bit_values.specs.BitLists.{number_bits}
use Rattle.bit_values.specs.Bytes.{bits_of}
use Rattle.indus_values.specs.View.{Cells, cells_of}
use Rattle.tele_layout.specs.Layouts.{slots_length, slots_bits, lists_of}
use Rattle.tele_layout.specs.declared.slots.Slot.{Slot}
use Rattle.tele_layout.proofs.WholeLemmas.{are_bytes, write_whole}
use Rattle.tele_layout.proofs.writing.write_tele.Goals as goal

pub returns : goal.returns
returns c =
    let first : List ℕ = bits_of c.put_bits.new.buf in
    let end : ℕ = c.put_slots-end.result in
    let P : Word → Type 0 = λ v. take (0 + v.width) first ≡ number_bits v.width v.value in
    let mark : take 8 first ≡ number_bits 8 c.args.l.now.first = subst P c.new.ensures c.put_bits.ensures.grown in
    let slots : take end (bits_of c.put_slots-end.new.buf) ≡ take 8 first ++ slots_bits c.args.l.now.slots.items (lists_of c.args.t.now) =
    c.put_slots-end.ensures.grown ∙ ap₂ (λ (ss : List Slot) (ls : List Cells). take 8 first ++ slots_bits ss (map cells_of ls)) c.deref.ensures.value c.deref-2.ensures.value in
    let ends : end ≡ 8 + slots_length c.args.l.now.slots.items = c.put_slots-end.ensures.end ∙ ap (λ (ss : List Slot). 8 + slots_length ss) c.deref.ensures.value in
    let long : length c.put_zeros.new.buf ≡ c.args.l.now.bytes = omega (arith, c.put_zeros.auto.buf, c.put_slots-end.auto.buf, c.put_bits.auto.buf, c.requires.size) in
    write_whole c.args.l.now (lists_of c.args.t.now) first (bits_of c.put_slots-end.new.buf) c.put_zeros.new.buf end (8 * c.args.l.now.bytes - end) c.requires.layout c.requires.fit
    (are_bytes c.put_zeros.new.buf c.type_inv.buf) long mark ends slots refl c.put_zeros.ensures
