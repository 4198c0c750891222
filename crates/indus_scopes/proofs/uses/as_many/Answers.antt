use Rattle.indus_scopes.proofs.Lengths.{as_many_parts}
use Rattle.indus_scopes.proofs.uses.as_many.Goals as goal

pub returns : goal.returns
returns c = as_many_parts c.args.keys.now c.args.types.now
