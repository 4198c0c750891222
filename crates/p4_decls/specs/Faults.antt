-- What the reader of a text answers, in words of spelling alone. Read `p4_spelling`, `lex_words/specs/Faults` and `p4_reader/specs/LeftOut` before.
use Rattle.std.specs.Prelude.{◌≡◌, ◌≢◌, ℕ, ◌⊎◌, true, false, List, [], Option, Some, None, Result, Ok, Err, slice_get}
use Rattle.lex_text.specs.Tokens.{FaultOf}
use Rattle.lex_text.specs.declared.fault.LexFault.{LexFault}
use Rattle.lex_text.specs.declared.token.Words.TheVariants.{P4}
use Rattle.lex_words.specs.Seen.{Lexeme}
use Rattle.lex_words.specs.Written.{bytes_of_lexeme}
use Rattle.lex_words.specs.Faults.{IsWithin, IsSyntax, IsTooDeep, OfLexemes}
use Rattle.p4_tree.specs.Tree.{Program}
use Rattle.p4_tree.specs.Height.{height}
use Rattle.p4_tree.specs.View.{program_of}
use Rattle.p4_tree.specs.declared.program.Program as code
use Rattle.p4_spelling.specs.Programs.{SpellsProgram}
use Rattle.p4_reader.specs.LeftOut.{is_left_out}
use Rattle.p4_decls.specs.declared.fault.ProgramFault.{ProgramFault}
use Rattle.p4_decls.specs.declared.fault.ProgramFault.TheVariants.{NoMemory, Lex, Syntax, LeftOut, TooDeep}

-- how high a program may be, and how many round brackets may be open behind a lexeme
abbrev pub limit : ℕ
limit = 256

-- the text spells the program within the limits
abbrev pub IsProgram : List ℕ → Program → Type 0
IsProgram text t = OfLexemes P4 (λ ws. IsWithin SpellsProgram height limit ws t) text

-- how the lexeme at a place is written, where one stands there
abbrev pub written_at : Option Lexeme → List ℕ
written_at None = []
written_at (Some w) = bytes_of_lexeme w

-- no program goes on with the lexeme at this place, which is none that the subset leaves out; or there is none
pub record IsWrong (ws : List Lexeme) (at : ℕ) : Type 0 where
  pub dead : IsSyntax SpellsProgram height limit ws at
  pub known : is_left_out (slice_get ws at) ≡ false

-- no program goes on with the lexeme at this place, which the subset leaves out, and which is written so
pub record IsLeftOut (ws : List Lexeme) (at : ℕ) (what : List ℕ) : Type 0 where
  pub dead : IsSyntax SpellsProgram height limit ws at
  pub left_out : is_left_out (slice_get ws at) ≡ true
  pub written : what ≡ written_at (slice_get ws at)

-- why a text is no program within the limits; want of memory says nothing of it
abbrev pub HasCause : List ℕ → ProgramFault → Type 0
HasCause text NoMemory = Unit {0}
HasCause text (Lex f) = FaultOf P4 text f
HasCause text (Syntax at) = OfLexemes P4 (λ ws. IsWrong ws at) text
HasCause text (LeftOut at what) = OfLexemes P4 (λ ws. IsLeftOut ws at what) text
HasCause text (TooDeep at) = OfLexemes P4 (λ ws. IsTooDeep SpellsProgram height limit ws at) text

-- the refusal of lexemes with which no program goes on at this place: whether that is left out, and how it is written
abbrev pub IsRefused : List Lexeme → ℕ → ProgramFault → Type 0
IsRefused ws at NoMemory = Unit {0}
IsRefused ws at (Lex f) = ⊥
IsRefused ws at (Syntax q) = (q ≡ at) × (is_left_out (slice_get ws at) ≡ false)
IsRefused ws at (LeftOut q what) = (q ≡ at) × (is_left_out (slice_get ws at) ≡ true) × (what ≡ written_at (slice_get ws at))
IsRefused ws at (TooDeep q) = ⊥

-- this program, or want of memory
abbrev pub IsAnswer : Result code.Program ProgramFault → Program → Type 0
IsAnswer (Ok p) t = program_of p ≡ t
IsAnswer (Err f) t = f ≡ NoMemory

-- this fault of the text's tokens, or want of memory
abbrev pub IsRefusal : Result code.Program ProgramFault → LexFault → Type 0
IsRefusal (Ok p) f = ⊥
IsRefusal (Err g) f = (g ≡ NoMemory) ⊎ (g ≡ Lex f)

-- ---- laws

-- lexemes spell one program at most
abbrev pub OneTree : Type 0
OneTree = (ws : List Lexeme) (s t : Program) → SpellsProgram s ws → SpellsProgram t ws → s ≡ t

-- a text spells one program at most
abbrev pub OneProgram : Type 0
OneProgram = (text : List ℕ) (s t : Program) → IsProgram text s → IsProgram text t → s ≡ t

-- a text that spells a program within the limits has no cause of a refusal
abbrev pub ProgramOrFault : Type 0
ProgramOrFault = (text : List ℕ) (t : Program) (f : ProgramFault) → IsProgram text t → HasCause text f → f ≡ NoMemory

-- a text has one cause of a refusal at most, apart from want of memory
abbrev pub OneRefusal : Type 0
OneRefusal = (text : List ℕ) (f g : ProgramFault) → HasCause text f → HasCause text g → f ≢ NoMemory → g ≢ NoMemory → f ≡ g
