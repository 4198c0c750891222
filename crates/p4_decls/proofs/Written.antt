-- How a lexeme that is left out is written.
use Rattle.std.proofs.Common.{◌≡◌, ℕ, zero, suc, true, List, [], ◌∷◌, Option, Some, None, refl, ap, subst, sym, ◌∙◌}
use Rattle.std.specs.Prelude.{slice_get}
use Rattle.std.specs.List.{list_all}
use Rattle.std.specs.Str.{IsAscii}
use Rattle.std.proofs.lemmas.Bool.{and_parts, ltb-true}
use Rattle.std.proofs.lemmas.Str.Ascii.{IsAscii-nil, IsAscii-cons}
use Rattle.lex_text.specs.Tokens.{is_ascii}
use Rattle.lex_text.specs.Places.{bytes_of}
use Rattle.lex_text.specs.declared.token.Token.{Token}
use Rattle.lex_text.specs.declared.token.TokenKind.{TokenKind}
use Rattle.lex_text.specs.declared.token.TokenKind.TheVariants as kind
use Rattle.lex_text.specs.declared.token.Words.TheVariants.{P4}
use Rattle.lex_words.specs.Keys.{bytes_of_key, reserved_key, mark_key}
use Rattle.lex_words.specs.Seen.{Lexeme, key, quoted, name_or, mark_or, lexeme_of_kind, lexeme_of, lexemes_of, key_in, name_in}
use Rattle.lex_words.specs.Written.{IsLexeme, AreLexemes}
use Rattle.lex_words.specs.declared.key.Key.{Key}
use Rattle.lex_words.proofs.KeyCodes.{at_key-is, found_is_key, name_lexeme}
use Rattle.lex_words.proofs.Ascii.{ascii_lexeme}
use Rattle.p4_reader.specs.LeftOut.{is_left_out, is_left_out_key}
use Rattle.p4_decls.specs.Faults.{written_at}

key_lexeme : (o : Option Lexeme) (x : Key) → key_in o ≡ Some x → o ≡ Some (key x)
key_lexeme o x e = at_key-is x o (found_is_key x o e)

pub key_left_out : (o : Option Lexeme) (x : Key) → key_in o ≡ Some x → is_left_out o ≡ true → is_left_out_key x ≡ true
key_left_out o x e f = subst (λ z. is_left_out z ≡ true) (key_lexeme o x e) f

pub key_written : (o : Option Lexeme) (x : Key) → key_in o ≡ Some x → bytes_of_key x ≡ written_at o
key_written o x e = ap written_at (sym (key_lexeme o x e))

pub name_written : (o : Option Lexeme) (s : List ℕ) → name_in o ≡ Some s → s ≡ written_at o
name_written o s e = ap written_at (sym (name_lexeme s o e))

-- a text in quotes is the one lexeme that is left out and is no key and no name
quoted_of : (bytes : List ℕ) (o : Option Key) → key_in (Some (name_or bytes o)) ≡ None → name_in (Some (name_or bytes o)) ≡ None → ⊥
quoted_of bytes None e f = cc
quoted_of bytes (Some x) e f = cc

mark_of : (bytes : List ℕ) (o : Option Key) → key_in (Some (mark_or bytes o)) ≡ None → is_left_out (Some (mark_or bytes o)) ≡ true → ⊥
mark_of bytes None e f = cc
mark_of bytes (Some x) e f = cc

kind_quoted : (bytes : List ℕ) (t : TokenKind) → key_in (Some (lexeme_of_kind P4 bytes t)) ≡ None → name_in (Some (lexeme_of_kind P4 bytes t)) ≡ None → is_left_out (Some (lexeme_of_kind P4 bytes t)) ≡ true → lexeme_of_kind P4 bytes t ≡ quoted bytes
kind_quoted bytes kind.Name e f g = absurd (quoted_of bytes (reserved_key P4 bytes) e f)
kind_quoted bytes (kind.Number n) e f g = absurd cc
kind_quoted bytes kind.Text e f g = refl
kind_quoted bytes kind.Mark e f g = absurd (mark_of bytes (mark_key bytes) e g)
kind_quoted bytes kind.Include e f g = absurd cc

ascii_is : (u : List ℕ) → list_all is_ascii u ≡ true → IsAscii u
ascii_is [] e = IsAscii-nil
ascii_is (b ∷ u) e = let h = and_parts (is_ascii b) (list_all is_ascii u) e in IsAscii-cons b u (ltb-true b 128 h.0) (ascii_is u h.1)

-- a lexeme of the list is a lexeme of the language
lexeme_at : (ws : List Lexeme) (i : ℕ) (x : Lexeme) → AreLexemes P4 ws → slice_get ws i ≡ Some x → IsLexeme P4 x
lexeme_at [] i x a e = absurd (let f : None ≡ Some x = e in cc)
lexeme_at (y ∷ ws) zero x a e = let f : y ≡ x = (let g : Some y ≡ Some x = e in cc) in subst (IsLexeme P4) f a.0
lexeme_at (y ∷ ws) (suc i) x a e = lexeme_at ws i x a.1 e

-- the token at i of the list, where its lexeme is left out and is no key and no name
module _ (text : List ℕ) (list : List Token) (i : ℕ) (t : Token) (here : slice_get list i ≡ Some t) where
  abbrev o : Option Lexeme
  o = slice_get (lexemes_of P4 text list) i

  lexeme_here : (list : List Token) (i : ℕ) → slice_get list i ≡ Some t → slice_get (lexemes_of P4 text list) i ≡ Some (lexeme_of P4 text t)
  lexeme_here [] i e = absurd (let f : None ≡ Some t = e in cc)
  lexeme_here (y ∷ ys) zero e = let f : y ≡ t = (let g : Some y ≡ Some t = e in cc) in ap (λ z. Some (lexeme_of P4 text z)) f
  lexeme_here (y ∷ ys) (suc i) e = lexeme_here ys i e

  module _ (no_key : key_in o ≡ None) (no_name : name_in o ≡ None) (left_out : is_left_out o ≡ true) where
    quoted_here : o ≡ Some (quoted (bytes_of text t))
    quoted_here =
        let e = lexeme_here list i here in
        e ∙ ap (λ z. Some z) (kind_quoted (bytes_of text t) t.kind (ap key_in (sym e) ∙ no_key) (ap name_in (sym e) ∙ no_name) (ap is_left_out (sym e) ∙ left_out))

    pub quoted_written : bytes_of text t ≡ written_at o
    quoted_written = ap written_at (sym quoted_here)

    pub quoted_ascii : AreLexemes P4 (lexemes_of P4 text list) → IsAscii (bytes_of text t)
    quoted_ascii fair = ascii_is (bytes_of text t) (ascii_lexeme P4 (quoted (bytes_of text t)) (lexeme_at (lexemes_of P4 text list) i (quoted (bytes_of text t)) fair quoted_here))

-- no token, no lexeme
pub none_there : (text : List ℕ) (list : List Token) (i : ℕ) → slice_get list i ≡ None → is_left_out (slice_get (lexemes_of P4 text list) i) ≡ true → ⊥
none_there text [] i e f = absurd cc
none_there text (y ∷ ys) zero e f = absurd cc
none_there text (y ∷ ys) (suc i) e f = none_there text ys i e f
