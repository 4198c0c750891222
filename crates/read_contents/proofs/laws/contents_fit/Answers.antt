use Rattle.read_contents.proofs.Shaped.{contents_fit}
use Rattle.read_contents.proofs.laws.contents_fit.Goals as goal

pub returns : goal.returns
returns c = contents_fit
