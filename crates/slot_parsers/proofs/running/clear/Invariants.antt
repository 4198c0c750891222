use Rattle.std.proofs.Common.{◌≡◌, length, take, replicate, false}
use Rattle.slot_parsers.proofs.running.clear.Given as goal

abbrev pub invariant-loop-i : goal.invariant-loop-i
invariant-loop-i l = record { cleared : take l.i l.passed ≡ replicate l.i false; long : length l.passed ≡ length l.fn.passed }
