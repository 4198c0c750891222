use Rattle.faultless_programs.proofs.Given.{no_fault_can_link}
use Rattle.faultless_programs.proofs.laws.no_fault_can_link.Goals as goal

pub returns : goal.returns
returns c = no_fault_can_link
