use Rattle.faultless_programs.proofs.FieldsFound.{found_fields_are_declared}
use Rattle.faultless_programs.proofs.laws.found_fields_are_declared.Goals as goal

pub returns : goal.returns
returns c = found_fields_are_declared
