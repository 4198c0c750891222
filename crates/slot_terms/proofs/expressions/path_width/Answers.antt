use Rattle.std.proofs.Common.{◌≡◌, Some, sym}
use Rattle.slot_terms.specs.Places.{place_at, place_of, places_of}
use Rattle.slot_terms.proofs.ReadLemmas.{read-width}
use Rattle.slot_terms.proofs.expressions.path_width.Goals as goal

pub returns-in-Some-clause-own : goal.returns-in-Some-clause-own
returns-in-Some-clause-own c slots valid s shows =
    let e : place_at (places_of c.args.places.now).rows c.args.names.now ≡ Some (place_of c.in-Some.row.now) = sym c.in-Some.ensures in
    read-width slots valid (place_of c.in-Some.row.now) s c.args.names.now (shows.values c.args.names.now (place_of c.in-Some.row.now) e)
