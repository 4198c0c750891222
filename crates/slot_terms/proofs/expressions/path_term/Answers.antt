use Rattle.std.proofs.Common.{◌≡◌, Some, sym, subst}
use Rattle.p4_meaning.specs.Store.{read}
use Rattle.slot_terms.specs.Typed.{Gives}
use Rattle.slot_terms.specs.Terms.{Term}
use Rattle.slot_terms.specs.Places.{place_at, place_of, places_of}
use Rattle.slot_terms.proofs.ReadLemmas.{read_gives}
use Rattle.slot_terms.proofs.expressions.path_term.Goals as goal

pub returns-in-Some-clause-means : goal.returns-in-Some-clause-means
returns-in-Some-clause-means c slots valid s shows =
    let e : place_at (places_of c.args.places.now).rows c.args.names.now ≡ Some (place_of c.in-Some.row.now) = sym c.in-Some.ensures in
    subst (λ (t : Term). Gives (record { term = t; width = c.in-Some.row.now.width }) slots valid (read s c.args.names.now)) (sym c.place_node.ensures)
    (read_gives slots valid (place_of c.in-Some.row.now) s c.args.names.now (shows.values c.args.names.now (place_of c.in-Some.row.now) e))
