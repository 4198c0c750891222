use Rattle.std.proofs.Common.{◌≡◌, map, drop}
use Rattle.serde_json.specs.View.{view}
use Rattle.json_parts.specs.Turns.{in_turn, behind}
use Rattle.case_file.specs.Case.{capture_at, captures_of}
use Rattle.case_file.specs.Views.{capture_views}
use Rattle.case_file.proofs.members.captures.Given as goal

abbrev pub invariant-loop-i : goal.invariant-loop-i
invariant-loop-i l = in_turn (behind capture_at) (capture_views l.captures.items) l.i (drop l.i (map view l.list)) ≡ captures_of (map view l.list)
