use Rattle.std.proofs.Common.{◌≡◌, ◌+◌, ◌-◌, ◌∷◌, true, false, ℕ, List, length, suc, take, drop, drop-cons, sym, ap, ◌∙◌, arith, subst, length-drop}
use Rattle.std.specs.Prelude.{slice_index_or}
use Rattle.std.proofs.lemmas.List.{drop_all, take_all}
use Rattle.bit_values.specs.Bytes.{bits_of}
use Rattle.bit_values.proofs.BytesLemmas.{length-bits_of}
use Rattle.tele_layout.specs.Reading.{all_zero, cells_found}
use Rattle.tele_layout.specs.declared.slots.Slot.{Slot}
use Rattle.tele_layout.proofs.ReadingLemmas.{TakingSlots, slots_more, slots_end}
use Rattle.tele_layout.proofs.reading.read_slots.Goals as goal

pub loop-slot-preserved : goal.loop-slot-preserved
loop-slot-preserved c =
    let none : Slot = record { variable = 0; at = 0; width = 0; count = 0 } in
    let slots : List Slot = c.args.slots.now in
    let i : ℕ = c.loop-slot.slot-index in
    let s : Slot = slice_index_or slots i none in
    let bits : List ℕ = bits_of c.args.buf.now in
    let one : suc i ≡ i + 1 = omega arith in
    let left : drop i slots ≡ s ∷ drop (i + 1) slots = drop-cons slots i none c.loop-slot-test.true ∙ ap (λ n. s ∷ drop n slots) one in
    let P : List Slot → Type 0 = λ ss. TakingSlots bits slots c.loop-slot.end ss c.loop-slot.items.items in
    slots_more bits slots c.loop-slot.end (c.loop-slot.end + c.length_of.result) s (drop (i + 1) slots) c.loop-slot.items.items c.push.new.self.items c.in-Some.values
    (subst P left c.loop-slot.invariant) (ap cells_found (sym c.in-Some.is) ∙ c.in_ok-read_slot.ensures) (ap (λ n. c.loop-slot.end + n) c.length_of.ensures) c.in_ok-push-in-Some.ensures.items

-- all that is left behind the last variable was looked at
rest_is : (bits : List ℕ) (end n : ℕ) → length bits ≡ n → take (n - end) (drop end bits) ≡ drop end bits
rest_is bits end n long = take_all (n - end) (drop end bits) (omega (arith, length-drop end bits))

pub returns-then-not-are_zeros : goal.returns-then-not-are_zeros
returns-then-not-are_zeros c =
    let bits : List ℕ = bits_of c.args.buf.now in
    let long : length bits ≡ c.args.bits = omega (arith, length-bits_of c.args.buf.now, c.requires.size) in
    slots_end bits c.args.slots.now c.loop-slot.end (drop c.loop-slot.slot-index c.args.slots.now) c.loop-slot.items.items false c.loop-slot.invariant (drop_all c.loop-slot.slot-index c.args.slots.now c.loop-slot-test.false)
    (c.if-not-are_zeros.ensures ∙ ap all_zero (rest_is bits c.loop-slot.end c.args.bits long))

pub returns : goal.returns
returns c =
    let bits : List ℕ = bits_of c.args.buf.now in
    let long : length bits ≡ c.args.bits = omega (arith, length-bits_of c.args.buf.now, c.requires.size) in
    slots_end bits c.args.slots.now c.loop-slot.end (drop c.loop-slot.slot-index c.args.slots.now) c.loop-slot.items.items true c.loop-slot.invariant (drop_all c.loop-slot.slot-index c.args.slots.now c.loop-slot-test.false)
    (c.if-not-are_zeros.ensures ∙ ap all_zero (rest_is bits c.loop-slot.end c.args.bits long))
