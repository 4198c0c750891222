use Rattle.indus_rules.proofs.Lengths.{one_length}
use Rattle.indus_rules.proofs.stmt_rules.same_count.Goals as goal

pub returns : goal.returns
returns c = one_length c.args.names.now c.args.lists.now
