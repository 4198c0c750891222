use Rattle.std.proofs.Common.{◌≡◌, length}
use Rattle.property_tests.proofs.telemetry.blank.Given as goal

abbrev pub invariant-loop : goal.invariant-loop
invariant-loop l = length l.bytes.items ≡ l.counter
