-- What a printed text says.
use Rattle.std.specs.Prelude.{ℕ, max, List}
use Rattle.lex_text.specs.Tokens.{TokensOf}
use Rattle.lex_text.specs.declared.token.Token.{Token}
use Rattle.lex_text.specs.declared.token.Words.TheVariants.{P4}
use Rattle.lex_words.specs.Seen.{Lexeme, lexemes_of}
use Rattle.lex_words.specs.Written.{AreLexemes}
use Rattle.lex_words.specs.Faults.{HasFewOpen}
use Rattle.p4_tree.specs.Tree.{Program}
use Rattle.p4_tree.specs.Places.{IsSameProgram}
use Rattle.p4_tree.specs.Height.{height}
use Rattle.p4_spelling.specs.Programs.{SpellsProgram}

-- some lexemes of P4 spell the program
pub record IsSpelled (t : Program) : Type 0 where
  pub lexemes : List Lexeme
  pub fair : AreLexemes P4 lexemes
  pub spells : SpellsProgram t lexemes

-- The text's tokens spell the same program but for places, and at no token more round brackets are open than the program is
-- high, or than 2 where it is lower.
pub record IsPrinted (t : Program) (text : List ℕ) : Type 0 where
  pub tree : Program
  pub same : IsSameProgram tree t
  pub list : List Token
  pub tokens : TokensOf P4 text list
  pub spells : SpellsProgram tree (lexemes_of P4 text list)
  pub few : HasFewOpen (max (height t) 2) (lexemes_of P4 text list)
