use Rattle.flat_laws.proofs.FormLemmas.{flat_code_is_flat}
use Rattle.flat_laws.proofs.laws.flat_code_is_flat.Goals as goal

pub returns : goal.returns
returns c = flat_code_is_flat
