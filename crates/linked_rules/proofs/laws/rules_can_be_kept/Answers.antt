use Rattle.linked_rules.proofs.BareRules.{rules_can_be_kept}
use Rattle.linked_rules.proofs.laws.rules_can_be_kept.Goals as goal

pub returns : goal.returns
returns c = rules_can_be_kept
