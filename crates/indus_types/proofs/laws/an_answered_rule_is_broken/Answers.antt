use Rattle.indus_types.proofs.Checked.{a_fault}
use Rattle.indus_types.proofs.laws.an_answered_rule_is_broken.Goals as goal

pub returns : goal.returns
returns c = λ p at rule h. a_fault p (at, rule) h
