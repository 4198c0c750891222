use Rattle.rule_tests.proofs.FirstBroken.{fine_unbroken, unbroken_fine}
use Rattle.p4_rules.specs.ProgramRules.{program_tests}
use Rattle.p4_rule_laws.proofs.laws.well_typed_is_fine.Goals as goal

pub returns : goal.returns
returns c = λ program. (unbroken_fine (program_tests program), fine_unbroken (program_tests program))
