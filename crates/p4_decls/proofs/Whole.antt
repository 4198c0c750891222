-- All lexemes of a list: what is read of them, and what a fault says. The laws of the reader (`lex_words/proofs/Whole`) at hand.
use Rattle.std.proofs.Common.{◌≡◌, ℕ, ◌+◌, ◌≤◌, ◌<◌, List, [], length, Some, Result, Ok, Err, arith}
use Rattle.lex_words.specs.Seen.{Lexeme}
use Rattle.lex_words.specs.Brackets.{left}
use Rattle.lex_words.specs.Faults.{IsWithin, IsSyntax, IsTooDeep}
use Rattle.lex_words.specs.Reading.{Fault, wrong, high, deep}
use Rattle.lex_words.proofs.Spelled.{Ends, Reads}
use Rattle.lex_words.proofs.Whole as whole
use Rattle.p4_tree.specs.Tree.{Program}
use Rattle.p4_tree.specs.Height.{height}
use Rattle.p4_spelling.specs.Programs.{SpellsProgram}
use Rattle.p4_decls.specs.Programs.{whole_at, program_at}
use Rattle.p4_decls.specs.Faults.{limit, OneTree}
use Rattle.p4_decls.proofs.Locality.{Follows-whole}
use Rattle.p4_decls.proofs.Balance.{even_program}
use Rattle.p4_decls.proofs.CompleteWhole.{whole_is_read}
use Rattle.p4_decls.proofs.SoundWhole.{least_tree, main_lexemes, least_program, Reads-whole}

even : (ws : List Lexeme) (t : Program) → SpellsProgram t ws → (b : ℕ) → length ws < b → left b ws ≡ Some b
even ws t s b lt = (even_program s).room b (omega (arith, lt))

sound : (ws : List Lexeme) (n : ℕ) → Reads ws SpellsProgram (λ t. height t ≤ limit) limit limit 0 (whole_at ws n limit 255)
sound ws n = Reads-whole ws n 254 255 (omega arith)

-- the shortest program
least : Ends SpellsProgram (λ t. height t ≤ limit) []
least = (least_tree, main_lexemes, least_program, omega arith)

pub unique : OneTree
unique ws s t x y = whole.unique SpellsProgram height whole_at Follows-whole whole_is_read even ws s t x y

module _ (ws : List Lexeme) where
  abbrev pub answer : Result Program Fault
  answer = program_at ws (length ws + 1) limit 255

  pub found : (t : Program) → answer ≡ Ok t → IsWithin SpellsProgram height limit ws t
  unfolding program_at
  found t e = whole.found SpellsProgram height whole_at Follows-whole whole_is_read even 255 sound least ws t e

  pub wrong_answer : (q : ℕ) → answer ≡ Err (wrong q) → IsSyntax SpellsProgram height limit ws q
  unfolding program_at
  wrong_answer q e = whole.wrong_answer SpellsProgram height whole_at Follows-whole whole_is_read even 255 sound least ws q e

  pub high_answer : (q : ℕ) → answer ≡ Err (high q) → IsTooDeep SpellsProgram height limit ws q
  unfolding program_at
  high_answer q e = whole.high_answer SpellsProgram height whole_at Follows-whole whole_is_read even 255 sound least ws q e

  pub deep_answer : (q : ℕ) → answer ≡ Err (deep q) → IsTooDeep SpellsProgram height limit ws q
  unfolding program_at
  deep_answer q e = whole.deep_answer SpellsProgram height whole_at Follows-whole whole_is_read even 255 sound least ws q e
