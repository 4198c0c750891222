use Rattle.std.proofs.Common.{◌≡◌, ◌+◌, ◌++◌, ◌∷◌, ◌⊎◌, [], ℕ, List, map, take, arith, subst, sym, ap, ◌∙◌, inl, inr}
use Rattle.std.proofs.lemmas.Slice.Zip.{either_empty_from_Zip}
use Rattle.bit_values.specs.Bits.{Word}
use Rattle.bit_values.specs.Bytes.{bits_of}
use Rattle.indus_values.specs.View.{Cells, cells_of}
use Rattle.tele_layout.specs.Telemetry.{slot_bits}
use Rattle.tele_layout.specs.Layouts.{slots_length, slots_bits, FitsSlot}
use Rattle.tele_layout.specs.declared.slots.Slot.{Slot}
use Rattle.tele_layout.proofs.WritingLemmas.{PuttingSlots, IsNextSlot, begin, next_slot, put_next, no_more}
use Rattle.tele_layout.proofs.writing.put_slots.Goals as goal

pub loop-slot-init : goal.loop-slot-init
loop-slot-init c =
    let a : c.into_iter-slot-iterator.result.a.rest.now ≡ c.args.slots.now = cc in
    let b : c.into_iter-slot-iterator.result.b.rest.now ≡ c.args.lists.now = cc in
    let bits : List ℕ = bits_of c.args.buf.now in
    let P : List Cells → Type 0 = λ ls. PuttingSlots (8 + slots_length c.args.slots.now) (take 8 bits ++ slots_bits c.args.slots.now (map cells_of c.args.lists.now)) 8 bits c.into_iter-slot-iterator.result.a.rest.now (map cells_of ls) in
    subst P (sym b) (begin bits c.args.slots.now c.into_iter-slot-iterator.result.a.rest.now (map cells_of c.args.lists.now) c.requires.placed c.requires.fit a)

-- what is left, as the next variable and what is left behind it
left_now : (last : ℕ) (whole : List ℕ) (end : ℕ) (bits : List ℕ) (ss : List Slot) (ls : List Cells) (s : Slot) (slots : List Slot) (vs : Cells) (lists : List Cells)
    → ss ≡ s ∷ slots → ls ≡ vs ∷ lists → PuttingSlots last whole end bits ss (map cells_of ls) → PuttingSlots last whole end bits (s ∷ slots) (vs.items ∷ map cells_of lists)
left_now last whole end bits ss ls s slots vs lists a b p =
    let P : List Slot → Type 0 = λ xs. PuttingSlots last whole end bits xs (vs.items ∷ map cells_of lists) in
    let Q : List Cells → Type 0 = λ xs. PuttingSlots last whole end bits ss (map cells_of xs) in
    subst P a (subst Q b p)

next_now : (last : ℕ) (whole : List ℕ) (end : ℕ) (bits : List ℕ) (ss : List Slot) (ls : List Cells) (s : Slot) (slots : List Slot) (vs : Cells) (lists : List Cells)
    → ss ≡ s ∷ slots → ls ≡ vs ∷ lists → PuttingSlots last whole end bits ss (map cells_of ls) → IsNextSlot last s vs.items
next_now last whole end bits ss ls s slots vs lists a b p =
    next_slot last whole end bits s slots vs.items (map cells_of lists) (left_now last whole end bits ss ls s slots vs lists a b p)

pub put_slot-end-requires-clause-placed : goal.put_slot-end-requires-clause-placed
put_slot-end-requires-clause-placed c =
    let h = c.in-Some.ensures.steps in
    (next_now (8 + slots_length c.args.slots.now) (take 8 (bits_of c.args.buf.now) ++ slots_bits c.args.slots.now (map cells_of c.args.lists.now)) c.loop-slot.end (bits_of c.loop-slot.buf)
    c.loop-slot.slot-iterator.a.rest.now c.loop-slot.slot-iterator.b.rest.now c.in-Some.slot.now c.next.new.self.a.rest.now c.in-Some.values.now c.next.new.self.b.rest.now h.0 h.1 c.loop-slot.invariant).placed

pub put_slot-end-requires-clause-within : goal.put_slot-end-requires-clause-within
put_slot-end-requires-clause-within c =
    let h = c.in-Some.ensures.steps in
    let n = next_now (8 + slots_length c.args.slots.now) (take 8 (bits_of c.args.buf.now) ++ slots_bits c.args.slots.now (map cells_of c.args.lists.now)) c.loop-slot.end (bits_of c.loop-slot.buf)
    c.loop-slot.slot-iterator.a.rest.now c.loop-slot.slot-iterator.b.rest.now c.in-Some.slot.now c.next.new.self.a.rest.now c.in-Some.values.now c.next.new.self.b.rest.now h.0 h.1 c.loop-slot.invariant in
    omega (arith, n.within, c.requires.within, c.loop-slot.auto.buf)

pub put_slot-end-requires-clause-fits : goal.put_slot-end-requires-clause-fits
put_slot-end-requires-clause-fits c =
    let h = c.in-Some.ensures.steps in
    let n = next_now (8 + slots_length c.args.slots.now) (take 8 (bits_of c.args.buf.now) ++ slots_bits c.args.slots.now (map cells_of c.args.lists.now)) c.loop-slot.end (bits_of c.loop-slot.buf)
    c.loop-slot.slot-iterator.a.rest.now c.loop-slot.slot-iterator.b.rest.now c.in-Some.slot.now c.next.new.self.a.rest.now c.in-Some.values.now c.next.new.self.b.rest.now h.0 h.1 c.loop-slot.invariant in
    let P : List Word → Type 0 = λ vs. FitsSlot c.in-Some.slot.now vs in
    subst P (sym c.deref.ensures.value) n.fits

pub loop-slot-preserved : goal.loop-slot-preserved
loop-slot-preserved c =
    let h = c.in-Some.ensures.steps in
    let last : ℕ = 8 + slots_length c.args.slots.now in
    let whole : List ℕ = take 8 (bits_of c.args.buf.now) ++ slots_bits c.args.slots.now (map cells_of c.args.lists.now) in
    let p = left_now last whole c.loop-slot.end (bits_of c.loop-slot.buf)
    c.loop-slot.slot-iterator.a.rest.now c.loop-slot.slot-iterator.b.rest.now c.in-Some.slot.now c.next.new.self.a.rest.now c.in-Some.values.now c.next.new.self.b.rest.now h.0 h.1 c.loop-slot.invariant in
    let put : take c.put_slot-end.result (bits_of c.put_slot-end.new.buf) ≡ take c.in-Some.slot.now.at (bits_of c.loop-slot.buf) ++ slot_bits c.in-Some.slot.now.width c.in-Some.slot.now.count c.in-Some.values.now.items =
    c.put_slot-end.ensures.grown ∙ ap (λ (vs : List Word). take c.in-Some.slot.now.at (bits_of c.loop-slot.buf) ++ slot_bits c.in-Some.slot.now.width c.in-Some.slot.now.count vs) c.deref.ensures.value in
    put_next last whole c.loop-slot.end c.put_slot-end.result (bits_of c.loop-slot.buf) (bits_of c.put_slot-end.new.buf) c.in-Some.slot.now c.next.new.self.a.rest.now c.in-Some.values.now.items (map cells_of c.next.new.self.b.rest.now) p c.put_slot-end.ensures.end put

no_cells : (ss : List Slot) (ls : List Cells) → (ss ≡ []) ⊎ (ls ≡ []) → (ss ≡ []) ⊎ (map cells_of ls ≡ [])
no_cells ss ls (inl e) = inl e
no_cells ss ls (inr e) = inr (ap (map cells_of) e)

pub returns-clause-end : goal.returns-clause-end
returns-clause-end c =
    let last : ℕ = 8 + slots_length c.args.slots.now in
    let whole : List ℕ = take 8 (bits_of c.args.buf.now) ++ slots_bits c.args.slots.now (map cells_of c.args.lists.now) in
    (no_more last whole c.loop-slot.end (bits_of c.loop-slot.buf) c.loop-slot.slot-iterator.a.rest.now (map cells_of c.loop-slot.slot-iterator.b.rest.now) c.loop-slot.invariant
    (no_cells c.loop-slot.slot-iterator.a.rest.now c.loop-slot.slot-iterator.b.rest.now (either_empty_from_Zip c.loop-slot.slot-iterator c.next.new.self c.next.result c.in-None.is c.next.ensures.steps))).0

pub returns-clause-grown : goal.returns-clause-grown
returns-clause-grown c =
    let last : ℕ = 8 + slots_length c.args.slots.now in
    let whole : List ℕ = take 8 (bits_of c.args.buf.now) ++ slots_bits c.args.slots.now (map cells_of c.args.lists.now) in
    (no_more last whole c.loop-slot.end (bits_of c.loop-slot.buf) c.loop-slot.slot-iterator.a.rest.now (map cells_of c.loop-slot.slot-iterator.b.rest.now) c.loop-slot.invariant
    (no_cells c.loop-slot.slot-iterator.a.rest.now c.loop-slot.slot-iterator.b.rest.now (either_empty_from_Zip c.loop-slot.slot-iterator c.next.new.self c.next.result c.in-None.is c.next.ensures.steps))).1
