use Rattle.p4_rule_laws.proofs.OwnStates.{core_own, with_ways_own, after_tops_own, start_among}
use Rattle.p4_rule_laws.proofs.growth.start_is_own.Goals as goal

pub returns : goal.returns
returns c = record { first = core_own; tops = after_tops_own; params = with_ways_own; start = start_among }
