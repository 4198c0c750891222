use Rattle.p4_scopes.specs.Scopes.{core}
use Rattle.exit_rules.proofs.Alone.{core_sums, tops_sums, alone_same, alone_in}
use Rattle.exit_rules.proofs.laws.alone_stays.Goals as goal

pub returns : goal.returns
returns c = record { scopes = tops_sums core core_sums; controls = alone_same; programs = alone_in }
