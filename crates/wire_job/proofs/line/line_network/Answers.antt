use Rattle.wire_job.proofs.Network.{is_line}
use Rattle.wire_job.proofs.line.line_network.Goals as goal

pub returns-in-Ok : goal.returns-in-Ok
returns-in-Ok c = is_line _ _ c.in_ok-value.ensures c.in-Ok.ensures
