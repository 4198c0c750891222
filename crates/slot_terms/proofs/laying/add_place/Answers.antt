use Rattle.slot_terms.specs.Places.{places_of}
use Rattle.slot_terms.proofs.LaidLemmas.{added_laid}
use Rattle.slot_terms.proofs.laying.add_place.Goals as goal

pub returns-clause-laid : goal.returns-clause-laid
returns-clause-laid c laid = added_laid (places_of c.args.places.now) (places_of c.push_place.new.places) c.args.path.items c.args.width c.args.header c.in_ok-slot.slot c.in_ok-slot.ensures.added laid
