use Rattle.linked_properties.proofs.Shown.{found_fields_are_shown}
use Rattle.linked_properties.proofs.laws.found_fields_are_shown.Goals as goal

pub returns : goal.returns
returns c = found_fields_are_shown
