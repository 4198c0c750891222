use Rattle.std.proofs.Common.{◌≡◌, ◌≢◌, ℕ, ◌<◌, length, get_or}
use Rattle.p4_parser_states.specs.declared.search.Mark.TheVariants.{New, Done}
use Rattle.p4_parser_states.proofs.search.finish.Given as goal

abbrev pub invariant-loop-x : goal.invariant-loop-x
invariant-loop-x l = record {
  done : (k : ℕ) → k < l.x-index → get_or l.marks.items (get_or l.states k 0) New ≡ Done l.cyclic;
  others : (x : ℕ) → ((k : ℕ) → k < l.x-index → get_or l.states k 0 ≢ x) → get_or l.marks.items x New ≡ get_or l.initial.marks.items x New;
  len : length l.marks.items ≡ length l.initial.marks.items;
}
