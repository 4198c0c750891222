-- Counts that never fall, and what a rise of one licenses. Read `State` next.
use Rattle.std.specs.Prelude.{◌≡◌, ℕ, ◌+◌, ◌-◌, ◌^◌, ◌≤◌, min}

-- The count rose. A count that stands at the end of its type counts as risen.
abbrev pub Rose : ℕ → ℕ → Type 0
Rose before now = min (before + 1) (2 ^ 64 - 1) ≤ now

-- The count didn't fall, and P holds only where it rose.
pub record Licenses (before now : ℕ) (P : Type 0) : Type 0 where
  pub later : before ≤ now
  pub cause : P → Rose before now

-- A count after one more, which stands still at the end of its type.
abbrev pub raised : ℕ → ℕ
raised count = min (count + 1) (2 ^ 64 - 1)

-- The count was raised by one where P holds, and stayed where it doesn't.
pub record Counts (before now : ℕ) (P : Type 0) : Type 0 where
  pub counted : P → now ≡ raised before
  pub stayed : (P → ⊥) → now ≡ before
