use Rattle.std.proofs.Common.{◌≡◌, map, drop}
use Rattle.serde_json.specs.View.{view}
use Rattle.json_parts.specs.Turns.{in_turn, behind}
use Rattle.network_file.specs.Named.{link_at, links_of}
use Rattle.network_file.specs.Views.{link_views}
use Rattle.network_file.proofs.named.links.Given as goal

abbrev pub invariant-loop-i : goal.invariant-loop-i
invariant-loop-i l = in_turn (behind link_at) (link_views l.links.items) l.i (drop l.i (map view l.list)) ≡ links_of (map view l.list)
