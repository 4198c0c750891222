-- The items of a list in turn.
use Rattle.std.specs.Prelude.{ℕ, ◌+◌, List, [], ◌∷◌, ◌++◌, Result, Ok}
use Rattle.json_parts.specs.Answers.{◌>>=◌}

-- what each item makes of what was found before it, with its number; `i` is the number of the first
unfoldable pub in_turn : {E S A : Type 0} → (S → ℕ → A → Result S E) → S → ℕ → List A → Result S E
in_turn step found i [] = Ok found
in_turn step found i (x ∷ xs) = step found i x >>= λ more. in_turn step more (i + 1) xs

-- the same without numbers
unfoldable pub each_in_turn : {E S A : Type 0} → (S → A → Result S E) → S → List A → Result S E
each_in_turn step found [] = Ok found
each_in_turn step found (x ∷ xs) = step found x >>= λ more. each_in_turn step more xs

-- what is read of an item goes behind what was read before it
abbrev pub behind : {E X A : Type 0} → (ℕ → A → Result X E) → List X → ℕ → A → Result (List X) E
behind read found i x = read i x >>= λ y. Ok (found ++ y ∷ [])

-- what is read of all items
abbrev pub all_of : {E X A : Type 0} → (ℕ → A → Result X E) → List A → Result (List X) E
all_of read xs = in_turn (behind read) [] 0 xs
