use Rattle.std.proofs.Common.{◌≡◌, map, arith, ◌∙◌}
use Rattle.slot_terms.specs.Places.{place_of}
use Rattle.slot_places.proofs.PlacedLemmas.{headers_loop}
use Rattle.slot_places.proofs.declared.push_headers.Goals as goal

pub loop-i-preserved : goal.loop-i-preserved
loop-i-preserved c =
    let number : c.in-Ok.number ≡ c.loop-i.i = omega arith in
    headers_loop c.args.headers.now c.loop-i.i c.in-Ok.number c.index-headers-i.result (map place_of c.loop-i.rows.items) (map place_of c.push_header.new.rows.items) c.loop-i-test.true c.index-headers-i.is number c.in_ok-push_header-in-Ok.ensures
    ∙ c.loop-i.invariant
