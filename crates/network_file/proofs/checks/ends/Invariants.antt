use Rattle.std.proofs.Common.{◌≡◌, drop, take, map}
use Rattle.json_parts.specs.Turns.{in_turn}
use Rattle.network_file.specs.Network.{with_ports, free}
use Rattle.network_file.specs.Ends.{ends_of}
use Rattle.network_file.specs.Views.{numbered_views}
use Rattle.network_file.proofs.checks.ends.Given as goal

abbrev pub invariant-loop-i : goal.invariant-loop-i
invariant-loop-i l = record {
  so_far : in_turn with_ports (map (λ e. e.0) l.ends.entries) l.i (drop l.i (numbered_views l.links)) ≡ free (numbered_views l.links);
  held : l.ends.entries ≡ ends_of (take l.i (numbered_views l.links));
}
