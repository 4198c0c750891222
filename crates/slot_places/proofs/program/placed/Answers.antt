use Rattle.std.proofs.Common.{◌≡◌, map, length, ◌&&◌, true, ap, ap₂, sym, subst, ◌∙◌}
use Rattle.p4_parts.specs.Headers.{header_in}
use Rattle.p4_parts.specs.PartsIn.{parts_in}
use Rattle.slot_terms.specs.Places.{Places, place_of, path_of}
use Rattle.slot_places.specs.ProgramRows.{path_in}
use Rattle.slot_places.specs.ProgramPlaces.{are_apart, are_headers, ArePlaced}
use Rattle.slot_places.proofs.PlacedLemmas.{placed_is, no_room}
use Rattle.slot_places.proofs.program.placed.Goals as goal

pub returns-in-None-clause-blames : goal.returns-in-None-clause-blames
returns-in-None-clause-blames c =
    let m : Places = record { rows = map place_of c.in_ok-rows.rows.items; headers = map path_of c.in_ok-headers.headers.items; next = c.in_ok-next.next; size = 0 } in
    no_room c.args.p.now c.args.room m c.in_ok-apart.apart c.in_ok-rows.ensures (c.in_ok-headers.ensures ∙ ap (λ hs. map path_in (map header_in hs)) c.deref.ensures.value)
    (c.in_ok-apart.ensures ∙ ap₂ (λ rs hs. are_apart (map place_of rs) && are_headers (map path_of hs)) c.deref-2.ensures.value c.deref-3.ensures.value)
    (c.in_ok-next.ensures ∙ ap (λ rs. length (map place_of rs)) c.deref-4.ensures.value) c.in-None.ensures

pub returns-in_ok-places_in_order-in-Some-clause-placed : goal.returns-in_ok-places_in_order-in-Some-clause-placed
returns-in_ok-places_in_order-in-Some-clause-placed c =
    let m : Places = record { rows = map place_of c.in_ok-rows.rows.items; headers = map path_of c.in_ok-headers.headers.items; next = c.in_ok-next.next; size = c.in-Some.size } in
    let apart : c.in_ok-apart.apart ≡ true = c.if-not-apart.false in
    subst (ArePlaced (parts_in c.args.p.now) c.args.room) (sym c.in_ok-places_in_order-in-Some.ensures)
    (placed_is c.args.p.now c.args.room m c.in_ok-apart.apart c.in_ok-rows.ensures (c.in_ok-headers.ensures ∙ ap (λ hs. map path_in (map header_in hs)) c.deref.ensures.value)
    (c.in_ok-apart.ensures ∙ ap₂ (λ rs hs. are_apart (map place_of rs) && are_headers (map path_of hs)) c.deref-2.ensures.value c.deref-3.ensures.value)
    apart (c.in_ok-next.ensures ∙ ap (λ rs. length (map place_of rs)) c.deref-4.ensures.value) c.in-Some.ensures.1 c.in-Some.ensures.0)
