use Rattle.p4_rule_laws.proofs.RolesGrow.{program_grows}
use Rattle.p4_rule_laws.proofs.growth.grown_is_well_typed.Goals as goal

pub returns : goal.returns
returns c = λ old more p q front zs i j g hs ms l w. program_grows old more p q front zs i g j w hs ms l
