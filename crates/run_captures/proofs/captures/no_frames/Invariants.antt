use Rattle.std.proofs.Common.{◌≡◌, ℕ, [], length, map, get_or}
use Rattle.run_captures.specs.Views.{list_view}
use Rattle.run_captures.proofs.captures.no_frames.Given as goal

abbrev pub invariant-loop : goal.invariant-loop
invariant-loop l = record {
  count : length (map list_view l.lists.items) ≡ l.counter;
  empty : (p : ℕ) → get_or (map list_view l.lists.items) p [] ≡ [];
}
