use Rattle.std.proofs.Common.{◌≡◌, map, take, string_bytes}
use Rattle.path_runner.specs.Packets.{told_of}
use Rattle.run_texts.specs.Told.{reports_lines}
use Rattle.run_texts.proofs.told.reports_text.Given as goal

-- the reports so far
abbrev pub invariant-loop-x : goal.invariant-loop-x
invariant-loop-x l = string_bytes l.text ≡ reports_lines l.network.names (map told_of (take l.x-index l.told))
