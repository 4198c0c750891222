use Rattle.p4_decls.proofs.OneAnswer.{one_program, no_program}
use Rattle.p4_decls.proofs.laws.one_answer.Goals as goal

pub returns-clause-one_program : goal.returns-clause-one_program
returns-clause-one_program c = one_program

pub returns-clause-not_both : goal.returns-clause-not_both
returns-clause-not_both c = λ text t f p x. no_program text f x t p
