use Rattle.std.proofs.Common.{◌≡◌, map, drop}
use Rattle.serde_json.specs.View.{view}
use Rattle.json_parts.specs.Turns.{in_turn, behind}
use Rattle.entry_parts.specs.Matches.{arg_at, args_of}
use Rattle.entry_parts.proofs.matches.args.Given as goal

abbrev pub invariant-loop-i : goal.invariant-loop-i
invariant-loop-i l = in_turn (behind (arg_at l.path l.params)) l.words.items l.i (drop l.i (map view l.list)) ≡ args_of l.path l.params (map view l.list)
