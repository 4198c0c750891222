-- What a call of code does that is no call of an action and no application of a table; and checksum calls, argument by
-- argument.
use Rattle.std.specs.Prelude.{◌≡◌, ℕ, List, [], ◌∷◌, Bool, Option, Some, None}
use Rattle.p4_tree.specs.Tree.{Expr, path, Arg, one}
use Rattle.bit_values.specs.Bits.{Word, word}
use Rattle.bit_values.specs.Widths.{sound_width, cast_word}
use Rattle.p4_meaning.specs.Statements.{Act, sums, idle, no_calls, done_by}
use Rattle.p4_statements.specs.Runs.{run_of}
use Rattle.p4_statements.specs.declared.statements.Asked as code_asked
use Rattle.p4_statements.specs.declared.run.Run as code_run

-- the run behind an act is what the act makes of the run before
abbrev pub Does : Act → (before behind : code_run.Run) → Type 0
Does act before behind = run_of behind ≡ (done_by no_calls act (run_of before)).0

-- a checksum of a field, where that is a path
abbrev pub sum_at : Bool → Expr → List Expr → Expr → Act
sum_at verifies c es (path p field) = sums verifies c es field
sum_at verifies c es _ = idle

-- a checksum call from the field on
abbrev pub sum_behind : Bool → Expr → List Expr → List Arg → Act
sum_behind verifies c es (one p field ∷ one q algorithm ∷ []) = sum_at verifies c es field
sum_behind verifies c es _ = idle

-- the table that a test applies, and whether it asks for a hit
abbrev pub asked_of : code_asked.Asked → List ℕ × Bool
asked_of a = (a.table.now, a.hit)

-- the word that a parameter of these bits has, where these words are left
abbrev pub word_at : (width : ℕ) → List Word → Word
word_at width [] = word (sound_width width) 0
word_at width (w ∷ ws) = cast_word (sound_width width) w
