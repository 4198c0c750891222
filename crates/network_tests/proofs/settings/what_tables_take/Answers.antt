use Rattle.std.proofs.Common.{arith}
use Rattle.network_tests.proofs.Guarded.{is_mapped, takes_two, takes_same}
use Rattle.network_tests.proofs.settings.what_tables_take.Goals as goal

pub returns-clause-maps : goal.returns-clause-maps
returns-clause-maps c = is_mapped

pub returns-clause-set : goal.returns-clause-set
returns-clause-set c = (omega arith, takes_two)

pub returns-clause-same : goal.returns-clause-same
returns-clause-same c = (omega arith, takes_same)
