use Rattle.std.proofs.Common.{sym}
use Rattle.slot_control_codes.proofs.statements.test_of.Goals as goal

pub returns-in_ok-t-in-None-clause-is : goal.returns-in_ok-t-in-None-clause-is
returns-in_ok-t-in-None-clause-is g c = record { none = sym c.in-None.ensures; means = c.in_ok-t-in-None.ensures.means }

pub returns-in_ok-applied-in-Some-clause-is : goal.returns-in_ok-applied-in-Some-clause-is
returns-in_ok-applied-in-Some-clause-is g c = record { name = c.in-Some.asked.table.now; some = sym c.in-Some.ensures; applies = c.in_ok-applied-in-Some.ensures.applies }
