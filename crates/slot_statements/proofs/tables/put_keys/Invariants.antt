use Rattle.std.proofs.Common.{◌≡◌, map, take, length}
use Rattle.slot_terms.specs.Typed.{typed_of}
use Rattle.slot_terms.specs.States.{state_of}
use Rattle.slot_statements.specs.Tables.{key_word}
use Rattle.slot_statements.proofs.tables.put_keys.Given as goal

abbrev pub invariant-loop-i : goal.invariant-loop-i
invariant-loop-i l = record {
  put : take l.i l.buffer ≡ map (key_word (state_of l.s)) (map typed_of (take l.i l.keys));
  room : length l.buffer ≡ length l.keys;
}
