use Rattle.command_steps.proofs.Planned.{planned, planned_first}
use Rattle.command_steps.proofs.plan.plan.Goals as goal

pub returns-in_err-read : goal.returns-in_err-read
returns-in_err-read g c = planned_first g.T.Steps.outputs _ (g.T.Steps.job_of c.args.steps.now) g.T.Steps.view _ _ _ c.from_residual.ensures c.in_err-read.ensures.follows

pub returns : goal.returns
returns g c = planned g.T.Steps.outputs _ (g.T.Steps.job_of c.args.steps.now) g.T.Steps.view _ _ c.in_ok-output.output c.in_ok-read.ensures.follows c.in_ok-output.ensures
