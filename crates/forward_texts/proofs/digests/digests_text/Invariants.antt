use Rattle.std.proofs.Common.{◌≡◌, map, take, string_bytes}
use Rattle.path_runner.specs.Packets.{told_of}
use Rattle.report_writer.specs.Texts.{reports_of}
use Rattle.forward_texts.specs.Rows.{report_of}
use Rattle.forward_texts.proofs.digests.digests_text.Given as goal

-- the digests so far
abbrev pub invariant-loop-x : goal.invariant-loop-x
invariant-loop-x l = string_bytes l.text ≡ reports_of (map (report_of l.network.names) (map told_of (take l.x-index l.told)))
