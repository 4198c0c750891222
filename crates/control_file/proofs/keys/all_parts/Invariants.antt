use Rattle.std.proofs.Common.{◌≡◌, map, drop}
use Rattle.serde_json.specs.View.{view}
use Rattle.json_parts.specs.Turns.{in_turn, behind, all_of}
use Rattle.control_file.specs.Keys.{part_at}
use Rattle.control_file.proofs.keys.all_parts.Given as goal

abbrev pub invariant-loop-i : goal.invariant-loop-i
invariant-loop-i l = in_turn (behind (part_at l.path l.types)) l.parts.items l.i (drop l.i (map view l.list)) ≡ all_of (part_at l.path l.types) (map view l.list)
