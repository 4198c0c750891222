use Rattle.flat_laws.proofs.FineProperty.{flat_code_is_well_typed}
use Rattle.flat_laws.proofs.laws.flat_code_is_well_typed.Goals as goal

pub returns : goal.returns
returns c = flat_code_is_well_typed
