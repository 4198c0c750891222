use Rattle.read_contents.proofs.Seated.{files_fit}
use Rattle.read_contents.proofs.laws.files_fit.Goals as goal

pub returns : goal.returns
returns c = files_fit
