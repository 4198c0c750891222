use Rattle.p4_parts.specs.PartsIn.{parts_in}
use Rattle.slot_terms.specs.Places.{places_of}
use Rattle.slot_places.proofs.HeadersLemmas.{program_placed}
use Rattle.slot_places.proofs.program.program_places.Goals as goal

pub returns-clause-program : goal.returns-clause-program
returns-clause-program c = program_placed (parts_in c.args.p.now) c.args.room (places_of c.in_ok-places.places) c.in_ok-places.ensures.placed
