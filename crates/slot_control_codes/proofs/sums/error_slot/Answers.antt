use Rattle.std.proofs.Common.{refl, sym, ap, ◌∙◌}
use Rattle.p4_meaning.specs.Standard.{checksum_error}
use Rattle.slot_terms.specs.Places.{place_at, place_of, places_of}
use Rattle.slot_control_codes.specs.Known.{has_error}
use Rattle.slot_control_codes.proofs.CallLemmas.{error_known, error_unknown}
use Rattle.slot_control_codes.proofs.sums.error_slot.Goals as goal

pub returns-in-None-clause-blames : goal.returns-in-None-clause-blames
returns-in-None-clause-blames c u = ap has_error (ap (place_at (places_of c.args.places.now).rows) (sym (c.deref.ensures.value ∙ c.in_ok-path.ensures)) ∙ sym c.in-None.ensures)

pub returns-then-row-eq1-clause-known : goal.returns-then-row-eq1-clause-known
returns-then-row-eq1-clause-known c =
    error_known (place_at (places_of c.args.places.now).rows checksum_error) (place_of c.in-Some.row.now)
    (ap (place_at (places_of c.args.places.now).rows) (sym (c.deref.ensures.value ∙ c.in_ok-path.ensures)) ∙ sym c.in-Some.ensures) c.if-row-eq1.true

pub returns-then-row-eq1-clause-at : goal.returns-then-row-eq1-clause-at
returns-then-row-eq1-clause-at c = record {
  place = place_of c.in-Some.row.now;
  is = ap (place_at (places_of c.args.places.now).rows) (sym (c.deref.ensures.value ∙ c.in_ok-path.ensures)) ∙ sym c.in-Some.ensures;
  width = c.if-row-eq1.true;
  slot = refl;
}

pub returns-clause-blames : goal.returns-clause-blames
returns-clause-blames c u =
    error_unknown (place_at (places_of c.args.places.now).rows checksum_error) (place_of c.in-Some.row.now)
    (ap (place_at (places_of c.args.places.now).rows) (sym (c.deref.ensures.value ∙ c.in_ok-path.ensures)) ∙ sym c.in-Some.ensures) c.if-row-eq1.false
