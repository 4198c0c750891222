use Rattle.std.proofs.Common.{◌≡◌, Some, sym, subst}
use Rattle.p4_tree.specs.Tree.{assign}
use Rattle.p4_tree.specs.View.{expr_of}
use Rattle.slot_terms.specs.Typed.{typed_of}
use Rattle.slot_terms.specs.Places.{place_at, place_of, places_of}
use Rattle.slot_statements.specs.Runs.{Does}
use Rattle.slot_statements.proofs.StatementLemmas.{assign_does}
use Rattle.slot_statements.proofs.statements.assign_code.Goals as goal

pub returns-in_ok-t-in-Some-clause-does : goal.returns-in_ok-t-in-Some-clause-does
returns-in_ok-t-in-Some-clause-does c =
    let e : place_at (places_of c.args.places.now).rows c.args.path.now ≡ Some (place_of c.in-Some.row.now) = sym c.in-Some.ensures in
    subst (λ k. Does (places_of c.args.places.now) (places_of c.args.places.now) k (assign 0 c.args.path.now (expr_of c.args.e.now))) (sym c.set_code.ensures)
    (assign_does (places_of c.args.places.now) c.args.path.now (place_of c.in-Some.row.now) 0 (expr_of c.args.e.now) (typed_of c.in_ok-t-in-Some.t) c.requires e (sym c.if-is_assignable.ensures) c.in_ok-t-in-Some.ensures.width c.in_ok-t-in-Some.ensures.means)
