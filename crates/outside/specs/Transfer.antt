-- How much a read takes from a reader.
use Rattle.std.specs.Prelude.{ℕ, ◌≤◌, ◌<◌, List, length, Option}
use Rattle.std.specs.Io.KnownBytes.{Consumes}

-- of the bytes that are left not more than `most` were taken
abbrev pub TakesAtMost : ℕ → Option (List ℕ) → Option (List ℕ) → Type 0
TakesAtMost most old new = (some : List ℕ) × (length some ≤ most) × Consumes old new some

-- of the bytes that are left more than `limit` were taken
abbrev pub TakesMoreThan : ℕ → Option (List ℕ) → Option (List ℕ) → Type 0
TakesMoreThan limit old new = (some : List ℕ) × (limit < length some) × Consumes old new some
