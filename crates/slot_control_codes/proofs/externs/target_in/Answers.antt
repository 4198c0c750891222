use Rattle.std.proofs.Common.{sym}
use Rattle.slot_terms.specs.Places.{place_of}
use Rattle.slot_control_codes.proofs.externs.target_in.Goals as goal

pub returns-in-Some-clause-at : goal.returns-in-Some-clause-at
returns-in-Some-clause-at c = record {
  place = place_of c.in-Some.row.now;
  is = sym c.in-Some.ensures;
  same = c.target_at.ensures;
}
