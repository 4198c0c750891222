-- What the table of the rows chooses.
use Rattle.std.specs.Prelude.{ℕ, List, [], ◌∷◌, Bool, true, false, if◌then◌else◌, nat_eq}
use Rattle.bit_values.specs.Bits.{Word}
use Rattle.slot_statements.specs.Tables.{NumberedOutcome}

-- the first key is this number
abbrev pub first_is : ℕ → List Word → Bool
first_is n [] = false
first_is n (w ∷ ws) = nat_eq w.value n

-- an entry for the key 7 runs an action on words, and without it the default runs
abbrev pub one_entry : (action default : ℕ) → (args : List Word) → (table : ℕ) → (keys : List Word) → NumberedOutcome
one_entry action default args n ws = if first_is 7 ws then record { action = action; args = args; hit = true } else record { action = default; args = []; hit = false }
