use Rattle.std.proofs.Common.{◌≡◌, drop}
use Rattle.json_parts.specs.Turns.{in_turn}
use Rattle.network_file.specs.Network.{low, in_range}
use Rattle.network_file.specs.Views.{numbered_views}
use Rattle.network_file.proofs.checks.ports_in_range.Given as goal

abbrev pub invariant-loop-i : goal.invariant-loop-i
invariant-loop-i l = in_turn low tt l.i (drop l.i (numbered_views l.links)) ≡ in_range (numbered_views l.links)
