use Rattle.std.proofs.Common.{◌≡◌, ◌≤◌, map, take}
use Rattle.path_runner.specs.Packets.{told_of}
use Rattle.run_texts.specs.Told.{reports_in}
use Rattle.run_texts.proofs.counts.reports.Given as goal

-- the reports so far
abbrev pub invariant-loop-x : goal.invariant-loop-x
invariant-loop-x l = (l.count ≡ reports_in (map told_of (take l.x-index l.told))) × (l.count ≤ l.x-index)
