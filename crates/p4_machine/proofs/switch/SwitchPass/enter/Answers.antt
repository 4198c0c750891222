use Rattle.p4_tree.specs.View.{program_of}
use Rattle.p4_parts.specs.PartsIn.{parts_in}
use Rattle.p4_machine.proofs.SwitchLemmas.{lent_parts, parts_fit}
use Rattle.p4_machine.proofs.switch.SwitchPass.enter.Goals as goal

pub go_in-requires-clause-fits : goal.go_in-requires-clause-fits
go_in-requires-clause-fits c = parts_fit (parts_in c.as_ref-plan.result.now.parts) (program_of c.self.inside.plan.value.program) c.self.inside.tables (lent_parts c.as_ref-plan.result.now c.self.inside.plan.value c.as_ref-plan.ensures c.self.invariant.plan) c.self.invariant.tables c.self.invariant.plan.few
