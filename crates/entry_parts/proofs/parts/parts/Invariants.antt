use Rattle.std.proofs.Common.{◌≡◌, map, drop}
use Rattle.serde_json.specs.View.{view}
use Rattle.json_parts.specs.Turns.{in_turn, behind}
use Rattle.entry_parts.specs.Written.{part_at, parts_of}
use Rattle.entry_parts.specs.Views.{part_views}
use Rattle.entry_parts.proofs.parts.parts.Given as goal

abbrev pub invariant-loop-i : goal.invariant-loop-i
invariant-loop-i l = in_turn (behind (part_at l.path l.keys)) (part_views l.parts.items) l.i (drop l.i (map view l.list)) ≡ parts_of l.path l.keys (map view l.list)
