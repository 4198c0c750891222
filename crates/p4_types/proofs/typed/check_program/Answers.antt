use Rattle.std.proofs.Common.{sym, ◌∙◌}
use Rattle.p4_tree.specs.View.{program_of}
use Rattle.p4_types.proofs.Checked.{no_fault, fault_is_first}
use Rattle.p4_types.proofs.typed.check_program.Goals as goal

pub known-requires-clause-typed : goal.known-requires-clause-typed
known-requires-clause-typed c = no_fault (program_of c.args.program) (sym c.in_ok-checked.ensures.first ∙ c.in-None.is)

pub returns-in-Some-clause-cause : goal.returns-in-Some-clause-cause
returns-in-Some-clause-cause c = fault_is_first (program_of c.args.program) c.in-Some.at c.in-Some.rule (sym c.in_ok-checked.ensures.first ∙ c.in-Some.is)

pub returns-in_ok-known-in-None-clause-typed : goal.returns-in_ok-known-in-None-clause-typed
returns-in_ok-known-in-None-clause-typed c = no_fault (program_of c.args.program) (sym c.in_ok-checked.ensures.first ∙ c.in-None.is)
