use Rattle.own_programs.proofs.Forwarding as forwarding
use Rattle.own_programs.proofs.Without as lowered
use Rattle.own_programs.proofs.laws.own_programs_are_forwarding.Goals as goal

pub returns-clause-own : goal.returns-clause-own
returns-clause-own c = forwarding.own_programs_forward

pub returns-clause-lowered : goal.returns-clause-lowered
returns-clause-lowered c = lowered.lowered_programs_forward
