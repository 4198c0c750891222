use Rattle.tele_layout.proofs.PlacesLemmas.{is_layout}
use Rattle.tele_layout.proofs.StateLemmas.{laid_out}
use Rattle.tele_layout.proofs.laws.layouts_serve_properties.Goals as goal

pub returns-clause-placed : goal.returns-clause-placed
returns-clause-placed c = is_layout

pub returns-clause-served : goal.returns-clause-served
returns-clause-served c = laid_out
