-- What a put does, where the sink tells its bytes.
use Rattle.std.specs.Prelude.{◌≡◌, ℕ, ◌+◌, ◌++◌, List, length, Result, OnOk}
use Rattle.outside.specs.declared.stops.SinkStop.{SinkStop}

-- Bytes grew by a prefix of a piece, at Ok by all of it. The room fell from `spare` to `left` by what was taken.
pub record Takes (old new piece : List ℕ) (spare left : ℕ) (result : Result (Unit {0}) SinkStop) : Type 0 where
  pub whole : OnOk result (new ≡ old ++ piece)
  pub prefix : (part : List ℕ) × (rest : List ℕ) × (piece ≡ part ++ rest) × (new ≡ old ++ part) × (left + length part ≡ spare)
