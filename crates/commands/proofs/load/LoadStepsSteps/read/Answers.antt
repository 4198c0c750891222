use Rattle.commands.proofs.load.LoadStepsSteps.read.Goals as goal

pub returns-clause-follows : goal.returns-clause-follows
returns-clause-follows g c = c.load_made.ensures.follows _
