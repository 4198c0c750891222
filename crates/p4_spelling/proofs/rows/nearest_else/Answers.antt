use Rattle.p4_spelling.proofs.Derivations.{else_row}
use Rattle.p4_spelling.proofs.rows.nearest_else.Goals as goal

pub returns : goal.returns
returns c = else_row
