-- What a store holds: bytes under names. Read `Causes` next.
use Rattle.std.specs.Prelude.{ℕ, List, Option, Some, None, if◌then◌else◌}
use Rattle.std.specs.Str.{bytes_eq}

-- the bytes held under each name, which is the bytes of its text, and None where it is not held
abbrev pub Files : Type 0
Files = List ℕ → Option (List ℕ)

-- P of what is told, where it is told
abbrev pub Told : {A : Type 0} → Option A → (A → Type 0) → Type 0
Told None P = Unit {0}
Told (Some a) P = P a

-- told after exactly where it was told before, and then P of both
abbrev pub ToldBoth : {A : Type 0} → Option A → Option A → (A → A → Type 0) → Type 0
ToldBoth None None P = Unit {0}
ToldBoth None (Some b) P = ⊥
ToldBoth (Some a) None P = ⊥
ToldBoth (Some a) (Some b) P = P a b

-- these files with other bytes under one name
abbrev pub with_file : Files → List ℕ → List ℕ → Files
with_file files name bytes other = if bytes_eq name other then Some bytes else files other
