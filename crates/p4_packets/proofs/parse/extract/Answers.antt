use Rattle.std.proofs.Common.{ap, ◌∙◌, sym, arith, ◌≤◌, ◌<◌, length, map, drop, true}
use Rattle.std.proofs.lemmas.Bool.{lt-ltb, le-ltb, leb-true, leb-false}
use Rattle.bit_values.specs.Bytes.{bits_of}
use Rattle.p4_meaning.specs.Store.{Store, set_valid}
use Rattle.p4_meaning.specs.Parsing.{Reading, width_sum, goes_on, with_valid, fields_taken}
use Rattle.p4_parts.specs.Headers.{field_in, header_in}
use Rattle.p4_packets.specs.Fields.{store_of}
use Rattle.p4_packets.specs.Places.{reading_of}
use Rattle.p4_packets.proofs.ParseLemmas.{left_over, too_short, long_enough, at_place}
use Rattle.p4_packets.proofs.parse.extract.Goals as goal

pub returns-else-has_room-clause-parsed : goal.returns-else-has_room-clause-parsed
returns-else-has_room-clause-parsed c =
    let none = sym c.has_room.ensures ∙ c.if-has_room.false in
    let lt = leb-false _ _ none in
    let need = ap (λ l. width_sum (map field_in l)) c.deref.ensures.value in
    let short : length (at_place (store_of c.args.s.now) c.args.frame.now c.args.at).rest < width_sum (header_in c.args.h.now).fields = omega (arith, need, lt, left_over (store_of c.args.s.now) c.args.frame.now c.args.at c.requires.within) in
    too_short (header_in c.args.h.now) (reading_of c.args.s.now c.args.frame.now c.args.at) (lt-ltb _ _ short)

pub returns-in_ok-set_valid-clause-parsed : goal.returns-in_ok-set_valid-clause-parsed
returns-in_ok-set_valid-clause-parsed c =
    let room = sym c.has_room.ensures ∙ c.if-has_room.true in
    let enough = leb-true _ _ room in
    let need = ap (λ l. width_sum (map field_in l)) c.deref.ensures.value in
    let le : width_sum (header_in c.args.h.now).fields ≤ length (at_place (store_of c.args.s.now) c.args.frame.now c.args.at).rest = omega (arith, need, enough, left_over (store_of c.args.s.now) c.args.frame.now c.args.at c.requires.within) in
    let before : Reading = reading_of c.args.s.now c.args.frame.now c.args.at in
    let marked = c.in_ok-set_valid.ensures ∙ ap (λ l. set_valid (store_of c.take_fields.new.s) l true) c.deref-then-has_room-3.ensures.value in
    let taken = c.in_ok-end.ensures.taken ∙ ap (λ l. fields_taken l (map field_in c.deref-then-has_room-2.result.now) before) c.deref-then-has_room.ensures.value ∙ ap (λ l. fields_taken c.args.h.now.path.items (map field_in l) before) c.deref-then-has_room-2.ensures.value in
    ap (λ (s : Store). goes_on (record { store = s; rest = drop c.in_ok-end.end (bits_of c.args.frame.now) })) marked
    ∙ ap (λ s. goes_on (with_valid c.args.h.now.path.items s)) taken
    ∙ long_enough (header_in c.args.h.now) before (le-ltb _ _ le)
