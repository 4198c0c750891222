use Rattle.p4_decls.proofs.Whole.{unique}
use Rattle.p4_decls.proofs.laws.one_tree.Goals as goal

pub returns : goal.returns
returns c = unique
