use Rattle.std.proofs.Common.{◌≡◌, map, drop}
use Rattle.serde_json.specs.View.{view}
use Rattle.json_parts.specs.Turns.{in_turn}
use Rattle.schedule_file.specs.Schedule.{with_member, start}
use Rattle.schedule_file.specs.Views.{around_view}
use Rattle.schedule_file.proofs.reading.read_members.Given as goal

abbrev pub invariant-loop-i : goal.invariant-loop-i
invariant-loop-i l = in_turn (with_member (around_view l.around)) l.reading l.i (drop l.i (map view l.list)) ≡ in_turn (with_member (around_view l.around)) (start (around_view l.around)) 0 (map view l.list)
