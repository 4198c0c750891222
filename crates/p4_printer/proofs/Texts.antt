-- Texts of lexemes that stand behind one another.
use Rattle.std.proofs.Common.{◌≡◌, ℕ, List, [], ◌∷◌, ◌++◌, refl, sym, ap, ◌∙◌, append_assoc}
use Rattle.std.proofs.lemmas.List.{append-nil}
use Rattle.lex_words.specs.Seen.{Lexeme}
use Rattle.lex_words.specs.Written.{bytes_of_lexeme}
use Rattle.p4_printer.specs.Forms.{form_of}
use Rattle.p4_printer.specs.Layout.{Sheet, put_bytes, written}

-- no lexemes
pub written_nil : (s : Sheet) → written s [] ≡ s
unfolding written
written_nil s = refl

-- one lexeme
pub written_one : (s : Sheet) (x : Lexeme) → written s (x ∷ []) ≡ put_bytes s (form_of x) (bytes_of_lexeme x)
unfolding written
written_one s x = refl

-- lexemes and then other lexemes
pub written_append : (s : Sheet) (u v : List Lexeme) → written s (u ++ v) ≡ written (written s u) v
unfolding written
written_append s [] v = refl
written_append s (x ∷ u) v = written_append (put_bytes s (form_of x) (bytes_of_lexeme x)) u v

-- a lexeme and then others
pub written_cons : (s : Sheet) (x : Lexeme) (v : List Lexeme) → written s (x ∷ v) ≡ written (written s (x ∷ [])) v
written_cons s x v = written_append s (x ∷ []) v

pub ruleset texts = (written_nil, written_append, written_cons, append_assoc, append-nil)

-- nothing more
pub nothing_put : (old : Sheet) → old ≡ written old []
nothing_put old = sym (written_nil old)

-- lexemes, and then others
pub follows : (old one new : Sheet) (u v : List Lexeme) → one ≡ written old u → new ≡ written one v → new ≡ written old (u ++ v)
follows old one new u v p q = q ∙ ap (λ z. written z v) p ∙ sym (written_append old u v)
