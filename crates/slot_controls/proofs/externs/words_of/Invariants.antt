use Rattle.std.proofs.Common.{◌≡◌, map, take, length}
use Rattle.slot_terms.specs.States.{state_of}
use Rattle.slot_terms.specs.Typed.{typed_of}
use Rattle.slot_controls.specs.Steps.{words_at}
use Rattle.slot_controls.proofs.externs.words_of.Given as goal

abbrev pub invariant-loop-t : goal.invariant-loop-t
invariant-loop-t l = record {
  count : length l.words.items ≡ l.t-index;
  words : l.words.items ≡ words_at (state_of l.s) (map typed_of (take l.t-index l.list));
}
