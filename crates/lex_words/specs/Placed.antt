-- What a reader sees of a cursor, and what holds of it.
use Rattle.std.specs.Prelude.{ℕ, ◌≤◌, length}
use Rattle.lex_text.specs.Places.{AreIn}
use Rattle.lex_text.specs.declared.token.Words.{Words}
use Rattle.lex_text.specs.declared.token.Words.TheVariants.{Indus, P4}
use Rattle.lex_words.specs.Moving.{Place}
use Rattle.lex_words.specs.Seen.{lexemes_of}
use Rattle.lex_words.specs.Written.{AreLexemes}
use Rattle.lex_words.specs.declared.cursor.Cursor.TheInside.{Inside}

-- how many tokens a text of the language may have
abbrev pub most : Words → ℕ
most Indus = 65536
most P4 = 16777216

abbrev pub place_in : Inside → Place
place_in c = record { lexemes = lexemes_of c.language c.text.now c.list.now; at = c.at }

-- The tokens lie in the text and are lexemes of the language; they are no more than a text may have, and the place is among them or behind the last.
pub record IsReady (c : Inside) : Type 0 where
  pub fits : AreIn c.text.now c.list.now
  pub fair : AreLexemes c.language (lexemes_of c.language c.text.now c.list.now)
  pub short : length c.list.now ≤ most c.language
  pub inside : c.at ≤ length c.list.now
