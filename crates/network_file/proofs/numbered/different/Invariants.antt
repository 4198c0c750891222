use Rattle.std.proofs.Common.{◌≡◌, drop}
use Rattle.json_parts.specs.Turns.{in_turn}
use Rattle.json_parts.specs.Views.{owned, texts}
use Rattle.network_file.specs.Network.{with_name, different}
use Rattle.network_file.proofs.numbered.different.Given as goal

abbrev pub invariant-loop-i : goal.invariant-loop-i
invariant-loop-i l = in_turn with_name (owned l.table.keys) l.i (drop l.i (texts l.names)) ≡ different (texts l.names)
