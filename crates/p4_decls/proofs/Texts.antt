-- What is read of a text's tokens, said of the text.
use Rattle.std.proofs.Common.{◌≡◌, ℕ, List, Ok, Err, subst, sym}
use Rattle.lex_text.specs.Tokens.{TokensOf}
use Rattle.lex_text.specs.declared.token.Token.{Token}
use Rattle.lex_text.specs.declared.token.Words.TheVariants.{P4}
use Rattle.lex_words.specs.Faults.{IsSyntax}
use Rattle.lex_words.specs.Seen.{Lexeme, lexemes_of}
use Rattle.lex_words.specs.Reading.{wrong, high, deep}
use Rattle.p4_tree.specs.Tree.{Program}
use Rattle.p4_tree.specs.Height.{height}
use Rattle.p4_spelling.specs.Programs.{SpellsProgram}
use Rattle.p4_decls.specs.Programs.{program_read}
use Rattle.p4_decls.specs.declared.fault.ProgramFault.{ProgramFault}
use Rattle.p4_decls.specs.declared.fault.ProgramFault.TheVariants.{NoMemory, Lex, Syntax, LeftOut, TooDeep}
use Rattle.p4_decls.specs.Faults.{limit, IsProgram, HasCause, IsRefused}
use Rattle.p4_decls.proofs.Whole.{found, wrong_answer, high_answer, deep_answer}

module _ (text : List ℕ) (list : List Token) (tokens : TokensOf P4 text list) where
  abbrev ws : List Lexeme
  ws = lexemes_of P4 text list

  pub is_program : (t : Program) → program_read ws ≡ Ok t → IsProgram text t
  is_program t e = record { list = list; tokens = tokens; holds = found ws t e }

  -- f: the refusal of the dead lexeme
  refused : (q : ℕ) → IsSyntax SpellsProgram height limit ws q → (f : ProgramFault) → IsRefused ws q f → HasCause text f
  refused q dead NoMemory r = tt
  refused q dead (Lex g) r = absurd r
  refused q dead (Syntax p) r = record { list = list; tokens = tokens; holds = record { dead = subst (λ i. IsSyntax SpellsProgram height limit ws i) (sym r.0) dead; known = rw r.0 r.1 } }
  refused q dead (LeftOut p x) r = record { list = list; tokens = tokens; holds = record { dead = subst (λ i. IsSyntax SpellsProgram height limit ws i) (sym r.0) dead; left_out = rw r.0 r.1; written = rw r.0 r.2 } }
  refused q dead (TooDeep p) r = absurd r

  pub is_wrong : (q : ℕ) → program_read ws ≡ Err (wrong q) → (f : ProgramFault) → IsRefused ws q f → HasCause text f
  is_wrong q e f r = refused q (wrong_answer ws q e) f r

  pub is_high : (q : ℕ) → program_read ws ≡ Err (high q) → HasCause text (TooDeep q)
  is_high q e = record { list = list; tokens = tokens; holds = high_answer ws q e }

  pub is_deep : (q : ℕ) → program_read ws ≡ Err (deep q) → HasCause text (TooDeep q)
  is_deep q e = record { list = list; tokens = tokens; holds = deep_answer ws q e }
