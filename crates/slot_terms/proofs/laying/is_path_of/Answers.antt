use Rattle.slot_terms.proofs.HashLemmas.{told_apart}
use Rattle.slot_terms.proofs.laying.is_path_of.Goals as goal

pub returns-else-known-hash : goal.returns-else-known-hash
returns-else-known-hash c = told_apart c.args.known c.args.hash c.args.row.now.path.items c.args.path.now c.requires.known c.requires.hash c.if-known-hash.false
