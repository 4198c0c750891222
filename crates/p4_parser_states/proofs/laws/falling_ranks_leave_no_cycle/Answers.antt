use Rattle.p4_parser_states.proofs.Reaching.{no_cycle}
use Rattle.p4_parser_states.proofs.laws.falling_ranks_leave_no_cycle.Goals as goal

pub returns : goal.returns
returns c = λ sts rank falls st. no_cycle sts rank falls st
