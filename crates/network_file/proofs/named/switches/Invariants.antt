use Rattle.std.proofs.Common.{◌≡◌, map, drop}
use Rattle.serde_json.specs.View.{view}
use Rattle.json_parts.specs.Turns.{in_turn, behind}
use Rattle.json_parts.specs.Views.{texts}
use Rattle.network_file.specs.Named.{switch_at, switches_of}
use Rattle.network_file.proofs.named.switches.Given as goal

abbrev pub invariant-loop-i : goal.invariant-loop-i
invariant-loop-i l = in_turn (behind switch_at) (texts l.switches.items) l.i (drop l.i (map view l.list)) ≡ switches_of (map view l.list)
