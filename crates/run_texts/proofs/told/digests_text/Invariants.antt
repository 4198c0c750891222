use Rattle.std.proofs.Common.{◌≡◌, map, take, string_bytes}
use Rattle.path_runner.specs.Packets.{told_of}
use Rattle.run_texts.specs.Told.{digests_lines}
use Rattle.run_texts.proofs.told.digests_text.Given as goal

-- the digests so far
abbrev pub invariant-loop-x : goal.invariant-loop-x
invariant-loop-x l = string_bytes l.text ≡ digests_lines l.network.names (map told_of (take l.x-index l.told))
