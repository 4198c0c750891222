use Rattle.job_course.proofs.Joining.{delivered}
use Rattle.command_steps.proofs.answering.answer.Goals as goal

pub returns-in-Ok-clause-answer : goal.returns-in-Ok-clause-answer
returns-in-Ok-clause-answer g c = delivered g.T.Steps.outputs _ _ _ _ _ _ _ c.in-Ok.ensures _ c.deliver.ensures
