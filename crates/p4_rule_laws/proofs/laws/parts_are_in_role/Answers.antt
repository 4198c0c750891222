use Rattle.p4_rule_laws.proofs.RoleFacts.{parts_in_role}
use Rattle.p4_rule_laws.proofs.laws.parts_are_in_role.Goals as goal

pub returns : goal.returns
returns c = parts_in_role
