-- Which arguments of a call are values, by the path that is called and by the argument's number, from 0. The others are
-- receivers, and paths that are written or that name a header, standard metadata or an algorithm. Read `Rewritten` after it.
use Rattle.std.specs.Prelude.{codes, ℕ, zero, suc, List, [], ◌∷◌, Bool, true, false, if◌then◌else◌}
use Rattle.lex_text.specs.Names.{same_text}

-- all but the first
abbrev pub is_behind_first : ℕ → Bool
is_behind_first zero = false
is_behind_first (suc n) = true

abbrev pub is_in_first_two : ℕ → Bool
is_in_first_two zero = true
is_in_first_two (suc zero) = true
is_in_first_two (suc (suc n)) = false

-- a call by one name: of the architecture's own functions, and else of an action, all of whose arguments are values
abbrev pub is_value_for : List ℕ → ℕ → Bool
is_value_for x n =
    if same_text x (codes "mark_to_drop") then false else
    -- a receiver, and a list of values
    if same_text x (codes "digest") then is_behind_first n else
    -- a condition and a list of values, and then a field and an algorithm
    if same_text x (codes "verify_checksum") then is_in_first_two n else
    if same_text x (codes "update_checksum") then is_in_first_two n else true

-- a call on what a name stands for: a register is read to a target by an index, and written at an index
abbrev pub is_value_at : (verb : List ℕ) → ℕ → Bool
is_value_at verb n = if same_text verb (codes "read") then is_behind_first n else same_text verb (codes "write")

abbrev pub is_value : List (List ℕ) → ℕ → Bool
is_value (x ∷ []) n = is_value_for x n
is_value (x ∷ verb ∷ []) n = is_value_at verb n
is_value _ n = false
