use Rattle.std.proofs.Common.{◌≡◌, map, drop}
use Rattle.json_parts.specs.Turns.{in_turn, behind}
use Rattle.table_entries.specs.View.{match_of}
use Rattle.entry_parts.specs.Matches.{match_at, matches_of}
use Rattle.entry_parts.specs.Views.{part_views}
use Rattle.entry_parts.proofs.matches.matches.Given as goal

abbrev pub invariant-loop-i : goal.invariant-loop-i
invariant-loop-i l = in_turn (behind (match_at l.path)) (map match_of l.list.items) l.i (drop l.i (part_views l.parts)) ≡ matches_of l.path (part_views l.parts)
