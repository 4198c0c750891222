use Rattle.p4_rule_laws.proofs.GrowthLemmas.{action_in_place, action_replaced, value_replaced}
use Rattle.p4_rule_laws.proofs.ReplacedTables.{keys_replaced}
use Rattle.p4_rule_laws.proofs.growth.locals_in_place.Goals as goal

pub returns : goal.returns
returns c = record { actions = action_in_place; expressions = action_replaced; values = value_replaced; keys = keys_replaced }
