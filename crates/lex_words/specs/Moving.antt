-- A place in a list of lexemes, and what it is to move it.
use Rattle.std.specs.Prelude.{◌≡◌, ℕ, ◌+◌, ◌≤◌, ◌<◌, Bool, true, false, List, length, Result, IfOk, slice_get}
use Rattle.lex_words.specs.Seen.{Lexeme, at_key}
use Rattle.lex_words.specs.Reading.{Read, Gives}
use Rattle.lex_words.specs.declared.halt.Halt.{Halt}
use Rattle.lex_words.specs.declared.key.Key.{Key}

-- the lexemes, and the number of the next
pub record Place : Type 0 where
  pub lexemes : List Lexeme
  pub at : ℕ

-- a reader of lexemes: the lexemes, how many turns each loop may make, and the place
abbrev pub Reader : Type 0 → Type 0
Reader Y = List Lexeme → ℕ → ℕ → Read Y

-- What the code read is what the reader reads there, and the place went on, in the same lexemes.
pub record Moves {X Y : Type 0} (view : X → Y) (reader : Reader Y) (old : Place) (result : Result X Halt) (new : Place) : Type 0 where
  pub gives : Gives (λ x. (view x, new.at)) result (reader old.lexemes (length old.lexemes + 1) old.at)
  pub same : new.lexemes ≡ old.lexemes
  pub within : IfOk result (λ _. (new.at ≤ length old.lexemes) × (old.at < new.at))

-- The same, where the place may have stayed.
pub record Stays {X Y : Type 0} (view : X → Y) (reader : Reader Y) (old : Place) (result : Result X Halt) (new : Place) : Type 0 where
  pub gives : Gives (λ x. (view x, new.at)) result (reader old.lexemes (length old.lexemes + 1) old.at)
  pub same : new.lexemes ≡ old.lexemes
  pub within : IfOk result (λ _. (new.at ≤ length old.lexemes) × (old.at ≤ new.at))

-- the place behind a lexeme that was found, or the place itself
abbrev pub behind : Bool → ℕ → ℕ
behind true i = i + 1
behind false i = i

-- The key was passed over, if it stood there.
pub record Eats (key : Key) (old : Place) (found : Bool) (new : Place) : Type 0 where
  pub value : found ≡ at_key key (slice_get old.lexemes old.at)
  pub after : new.at ≡ behind found old.at
  pub same : new.lexemes ≡ old.lexemes
  pub inside : new.at ≤ length old.lexemes
