use Rattle.p4_typing_laws.proofs.RunPrograms as programs
use Rattle.p4_typing_laws.proofs.laws.controls_run.Goals as goal

pub returns : goal.returns
returns c = programs.controls_run
