use Rattle.p4_rule_laws.proofs.RolesGrow.{made_fine, scopes_see}
use Rattle.p4_rule_laws.proofs.growth.grown_is_fine.Goals as goal

pub returns : goal.returns
returns c = λ old more change p q front zs i j g f. (made_fine old more change p q front zs i g j f, scopes_see old more change p q front zs i g j f)
