use Rattle.std.proofs.Common.{◌≡◌, Some, sym, subst}
use Rattle.p4_tree.specs.View.{expr_of}
use Rattle.slot_terms.specs.Typed.{typed_of}
use Rattle.slot_terms.specs.Places.{place_at, place_of, places_of}
use Rattle.slot_parsers.specs.Extracts.{DoesAssign}
use Rattle.slot_parsers.proofs.MakingLemmas.{set_does, fixed_does}
use Rattle.slot_parser_codes.proofs.making.assign_step.Goals as goal

pub returns-in_ok-t-in-Some-clause-does : goal.returns-in_ok-t-in-Some-clause-does
returns-in_ok-t-in-Some-clause-does c =
    let m = places_of c.args.places.now in
    let there : place_at m.rows c.args.path.now ≡ Some (place_of c.in-Some.row.now) = sym c.in-Some.ensures in
    subst (λ k. DoesAssign m k c.args.path.now (expr_of c.args.e.now)) (sym c.set_step.ensures)
    (set_does m c.args.path.now (place_of c.in-Some.row.now) (expr_of c.args.e.now) (typed_of c.in_ok-t-in-Some.t) c.requires there (sym c.if-is_assignable.ensures) c.in_ok-t-in-Some.ensures.width c.in_ok-t-in-Some.ensures.means)

pub returns-else-is_assignable-clause-does : goal.returns-else-is_assignable-clause-does
returns-else-is_assignable-clause-does c = fixed_does (places_of c.args.places.now) c.args.path.now (expr_of c.args.e.now) (sym c.if-is_assignable.ensures)
