use Rattle.linked_halves.proofs.Widths.{views_width}
use Rattle.linked_halves.proofs.laws.views_have_their_widths.Goals as goal

pub returns : goal.returns
returns c = views_width
