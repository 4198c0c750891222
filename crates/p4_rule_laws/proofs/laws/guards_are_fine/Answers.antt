use Rattle.p4_rule_laws.proofs.GuardLemmas.{test_value, guard_fine, guard_parts, guard_most}
use Rattle.p4_rule_laws.proofs.laws.guards_are_fine.Goals as goal

pub returns : goal.returns
returns c = record { tests = test_value; guards = guard_fine; parts = guard_parts; digests = guard_most }
