use Rattle.exit_names.proofs.Programs as programs
use Rattle.exit_names.proofs.laws.controls_own.Goals as goal

pub returns : goal.returns
returns c = programs.controls_own
