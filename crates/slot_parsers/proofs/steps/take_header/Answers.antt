use Rattle.std.proofs.Common.{◌≡◌, ◌+◌, ◌-◌, ◌*◌, length, drop, true, sym, subst, ap, ap₂, ◌∙◌, rules}
use Rattle.std.specs.Prelude.{nat_lt, slice_set}
use Rattle.std.specs.Vec.{with_items}
use Rattle.std.proofs.lemmas.List.{with_items_is}
use Rattle.bit_values.specs.Bytes.{bits_of}
use Rattle.slot_terms.specs.States.{State, state_of}
use Rattle.slot_packets.specs.Fields.{AreWidths, take_fields, widths_sum}
use Rattle.slot_places.specs.HeaderSlots.{header_slots_of}
use Rattle.slot_places.proofs.LoopLemmas.{widths_are}
use Rattle.slot_parsers.proofs.RunLemmas.{taken_short, taken_long}
use Rattle.slot_parsers.proofs.steps.take_header.Goals as goal

pub returns-then-is_short-clause-taken : goal.returns-then-is_short-clause-taken
returns-then-is_short-clause-taken c =
    taken_short (header_slots_of c.args.h.now) c.args.number (state_of c.args.s.now) c.args.frame.now c.args.at c.is_short.result
    (c.is_short.ensures ∙ ap (λ ws. nat_lt (8 * length c.args.frame.now - c.args.at) (widths_sum ws)) c.deref.ensures.value) c.if-is_short.true

pub take_fields-end-requires-clause-widths : goal.take_fields-end-requires-clause-widths
take_fields-end-requires-clause-widths c = subst AreWidths (sym c.deref-2.ensures.value) (widths_are c.args.h.now.widths.items c.args.h.now.sound)

pub returns-clause-taken : goal.returns-clause-taken
returns-clause-taken c =
    let s = c.args.s.now in
    let w = c.args.h.now.widths.items in
    let bits = drop c.args.at (bits_of c.args.frame.now) in
    let slots : (with_items s.slots c.take_fields-end.new.slots).items ≡ take_fields w c.args.h.now.first bits s.slots.items =
    with_items_is s.slots c.take_fields-end.new.slots (search rules) ∙ c.take_fields-end.ensures.taken ∙ ap₂ (λ ws ss. take_fields ws c.args.h.now.first bits ss) c.deref-2.ensures.value c.deref_mut.ensures.value in
    let valid : (with_items s.valid c.make_valid.new.valid).items ≡ slice_set s.valid.items c.args.number true =
    with_items_is s.valid c.make_valid.new.valid (search rules) ∙ c.make_valid.ensures ∙ ap (λ v. slice_set v c.args.number true) c.deref_mut-2.ensures.value in
    let after : State = record { slots = (with_items s.slots c.take_fields-end.new.slots).items; valid = (with_items s.valid c.make_valid.new.valid).items } in
    taken_long (header_slots_of c.args.h.now) c.args.number (state_of s) after c.args.frame.now c.args.at c.take_fields-end.result c.is_short.result
    (c.is_short.ensures ∙ ap (λ ws. nat_lt (8 * length c.args.frame.now - c.args.at) (widths_sum ws)) c.deref.ensures.value) c.if-is_short.false
    slots valid (c.take_fields-end.ensures.end ∙ ap (λ ws. c.args.at + widths_sum ws) c.deref-2.ensures.value)
