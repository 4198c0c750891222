use Rattle.link_faults.proofs.NoFault.{no_fault_says}
use Rattle.link_faults.proofs.laws.no_fault_says.Goals as goal

pub returns : goal.returns
returns c = no_fault_says
