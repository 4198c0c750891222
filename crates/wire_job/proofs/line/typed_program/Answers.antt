use Rattle.std.proofs.Common.{◌∙◌}
use Rattle.wire_job.proofs.Program.{is_not_refused, is_wire}
use Rattle.wire_job.proofs.line.typed_program.Goals as goal

pub returns-in-Ok : goal.returns-in-Ok
returns-in-Ok c = is_wire _ (c.in-Ok.ensures.ok ∙ c.in_ok-program.ensures)

pub unreachable-requires : goal.unreachable-requires
unreachable-requires c = is_not_refused _ _ _ _ c.in_ok-program.ensures c.in-Err-Type_.field-0-is c.in-Err-Type_.ensures.cause
