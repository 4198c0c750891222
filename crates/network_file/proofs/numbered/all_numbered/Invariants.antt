use Rattle.std.proofs.Common.{◌≡◌, drop}
use Rattle.json_parts.specs.Turns.{in_turn, behind}
use Rattle.json_parts.specs.Views.{owned}
use Rattle.network_file.specs.Network.{numbered, all_numbered}
use Rattle.network_file.specs.Views.{link_views, numbered_views}
use Rattle.network_file.proofs.numbered.all_numbered.Given as goal

abbrev pub invariant-loop-i : goal.invariant-loop-i
invariant-loop-i l = in_turn (behind (numbered (owned l.table.keys))) (numbered_views l.all.items) l.i (drop l.i (link_views l.links)) ≡ all_numbered (owned l.table.keys) (link_views l.links)
