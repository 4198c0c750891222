-- A text has one answer: a program within the limits leaves no other program and no fault, and a fault no program and no other fault.
use Rattle.std.proofs.Common.{◌≡◌, ℕ, true, false, List, refl, sym, ap, subst, ◌∙◌}
use Rattle.std.specs.Prelude.{slice_get}
use Rattle.lex_text.specs.declared.token.Token.{Token}
use Rattle.lex_text.specs.declared.token.Words.TheVariants.{P4}
use Rattle.lex_text.specs.Tokens.{TokensOf}
use Rattle.lex_text.proofs.OneAnswer.{one_list, one_fault, tokens_or_fault}
use Rattle.lex_words.specs.Seen.{lexemes_of}
use Rattle.lex_words.specs.Faults.{IsSyntax, OfLexemes}
use Rattle.lex_words.proofs.OneAnswer.{one_tree, no_lexing_fault, no_dead_lexeme, no_deep_lexeme, one_dead_lexeme, one_deep_lexeme, dead_or_deep_lexeme}
use Rattle.p4_tree.specs.Tree.{Program}
use Rattle.p4_tree.specs.Height.{height}
use Rattle.p4_spelling.specs.Programs.{SpellsProgram}
use Rattle.p4_reader.specs.LeftOut.{is_left_out}
use Rattle.p4_decls.specs.declared.fault.ProgramFault.{ProgramFault}
use Rattle.p4_decls.specs.declared.fault.ProgramFault.TheVariants.{NoMemory, Lex, Syntax, LeftOut, TooDeep}
use Rattle.p4_decls.specs.Faults.{limit, IsProgram, written_at, IsWrong, IsLeftOut, HasCause, OneProgram, OneRefusal}
use Rattle.p4_decls.proofs.Whole.{unique}

pub one_program : OneProgram
one_program text s t x y = one_tree SpellsProgram height limit P4 text unique s t x y

-- ---- the dead lexeme of either refusal

abbrev Dead : List ℕ → ℕ → Type 0
Dead text q = OfLexemes P4 (λ ws. IsSyntax SpellsProgram height limit ws q) text

wrong_dead : (text : List ℕ) (q : ℕ) → OfLexemes P4 (λ ws. IsWrong ws q) text → Dead text q
wrong_dead text q c = record { list = c.list; tokens = c.tokens; holds = c.holds.dead }

left_dead : (text : List ℕ) (q : ℕ) (x : List ℕ) → OfLexemes P4 (λ ws. IsLeftOut ws q x) text → Dead text q
left_dead text q x c = record { list = c.list; tokens = c.tokens; holds = c.holds.dead }

-- two lists of a text's tokens are one
same_lexemes : (text : List ℕ) (a b : List Token) → TokensOf P4 text a → TokensOf P4 text b → lexemes_of P4 text a ≡ lexemes_of P4 text b
same_lexemes text a b x y = ap (lexemes_of P4 text) (one_list P4 text a b x y)

-- a lexeme is left out or not
not_both : (text : List ℕ) (p q : ℕ) (x : List ℕ) → OfLexemes P4 (λ ws. IsWrong ws p) text → OfLexemes P4 (λ ws. IsLeftOut ws q x) text → ⊥
not_both text p q x c d =
    let at : p ≡ q = one_dead_lexeme SpellsProgram height limit P4 text p q (wrong_dead text p c) (left_dead text q x d) in
    let same = same_lexemes text c.list d.list c.tokens d.tokens in
    let e : is_left_out (slice_get (lexemes_of P4 text d.list) q) ≡ false = subst (λ ws. is_left_out (slice_get ws q) ≡ false) same (subst (λ i. is_left_out (slice_get (lexemes_of P4 text c.list) i) ≡ false) at c.holds.known) in
    let f = d.holds.left_out in
    absurd (let g : true ≡ false = sym f ∙ e in cc)

one_left_out : (text : List ℕ) (p q : ℕ) (x y : List ℕ) → OfLexemes P4 (λ ws. IsLeftOut ws p x) text → OfLexemes P4 (λ ws. IsLeftOut ws q y) text → LeftOut p x ≡ LeftOut q y
one_left_out text p q x y c d =
    let at : p ≡ q = one_dead_lexeme SpellsProgram height limit P4 text p q (left_dead text p x c) (left_dead text q y d) in
    let same = same_lexemes text c.list d.list c.tokens d.tokens in
    let e : x ≡ y = c.holds.written ∙ ap (λ ws. written_at (slice_get ws p)) same ∙ ap (λ i. written_at (slice_get (lexemes_of P4 text d.list) i)) at ∙ sym d.holds.written in
    ap (λ i. LeftOut i x) at ∙ ap (λ z. LeftOut q z) e

pub no_program : (text : List ℕ) (f : ProgramFault) → HasCause text f → (t : Program) → IsProgram text t → f ≡ NoMemory
no_program text NoMemory c t p = refl
no_program text (Lex f) c t p = absurd (no_lexing_fault SpellsProgram height limit P4 text t p f c)
no_program text (Syntax q) c t p = absurd (no_dead_lexeme SpellsProgram height limit P4 text t p q (wrong_dead text q c))
no_program text (LeftOut q x) c t p = absurd (no_dead_lexeme SpellsProgram height limit P4 text t p q (left_dead text q x c))
no_program text (TooDeep q) c t p = absurd (no_deep_lexeme SpellsProgram height limit P4 text t p q c)

pub one_refusal : OneRefusal
one_refusal text NoMemory g c d n m = absurd (n refl)
one_refusal text (Lex f) NoMemory c d n m = absurd (m refl)
one_refusal text (Lex f) (Lex g) c d n m = ap (λ x. Lex x) (one_fault P4 text f g c d)
one_refusal text (Lex f) (Syntax q) c d n m = absurd (tokens_or_fault P4 text d.list f d.tokens c)
one_refusal text (Lex f) (LeftOut q x) c d n m = absurd (tokens_or_fault P4 text d.list f d.tokens c)
one_refusal text (Lex f) (TooDeep q) c d n m = absurd (tokens_or_fault P4 text d.list f d.tokens c)
one_refusal text (Syntax p) NoMemory c d n m = absurd (m refl)
one_refusal text (Syntax p) (Lex g) c d n m = absurd (tokens_or_fault P4 text c.list g c.tokens d)
one_refusal text (Syntax p) (Syntax q) c d n m = ap (λ x. Syntax x) (one_dead_lexeme SpellsProgram height limit P4 text p q (wrong_dead text p c) (wrong_dead text q d))
one_refusal text (Syntax p) (LeftOut q x) c d n m = absurd (not_both text p q x c d)
one_refusal text (Syntax p) (TooDeep q) c d n m = absurd (dead_or_deep_lexeme SpellsProgram height limit P4 text p q (wrong_dead text p c) d)
one_refusal text (LeftOut p x) NoMemory c d n m = absurd (m refl)
one_refusal text (LeftOut p x) (Lex g) c d n m = absurd (tokens_or_fault P4 text c.list g c.tokens d)
one_refusal text (LeftOut p x) (Syntax q) c d n m = absurd (not_both text q p x d c)
one_refusal text (LeftOut p x) (LeftOut q y) c d n m = one_left_out text p q x y c d
one_refusal text (LeftOut p x) (TooDeep q) c d n m = absurd (dead_or_deep_lexeme SpellsProgram height limit P4 text p q (left_dead text p x c) d)
one_refusal text (TooDeep p) NoMemory c d n m = absurd (m refl)
one_refusal text (TooDeep p) (Lex g) c d n m = absurd (tokens_or_fault P4 text c.list g c.tokens d)
one_refusal text (TooDeep p) (Syntax q) c d n m = absurd (dead_or_deep_lexeme SpellsProgram height limit P4 text q p (wrong_dead text q d) c)
one_refusal text (TooDeep p) (LeftOut q x) c d n m = absurd (dead_or_deep_lexeme SpellsProgram height limit P4 text q p (left_dead text q x d) c)
one_refusal text (TooDeep p) (TooDeep q) c d n m = ap (λ x. TooDeep x) (one_deep_lexeme SpellsProgram height limit P4 text p q c d)
