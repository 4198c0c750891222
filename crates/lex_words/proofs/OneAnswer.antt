-- A text has one answer: a tree within the limits leaves no other tree and no fault, and a fault no other fault.
use Rattle.std.proofs.Common.{◌≡◌, ℕ, ◌+◌, ◌≤◌, List, ◌++◌, length, take, drop, sym, ap, subst, ◌∙◌, append_assoc, arith, inl, inr}
use Rattle.std.proofs.lemmas.Bool.{cases_lt}
use Rattle.std.proofs.lemmas.List.{take-append-drop, take-take}
use Rattle.lex_text.specs.Tokens.{TokensOf, FaultOf}
use Rattle.lex_text.specs.declared.fault.LexFault.{LexFault}
use Rattle.lex_text.specs.declared.token.Token.{Token}
use Rattle.lex_text.specs.declared.token.Words.{Words}
use Rattle.lex_text.proofs.OneAnswer.{one_list, tokens_or_fault}
use Rattle.lex_words.specs.Seen.{Lexeme, lexemes_of}
use Rattle.lex_words.specs.Brackets.{open_behind}
use Rattle.lex_words.specs.Faults.{IsWithin, Begun, IsDead, IsSyntax, IsPast, HasRoom, IsTooDeep, OfLexemes}

module _ {T : Type 0} (Spells : T → List Lexeme → Type 0) (height : T → ℕ) (limit : ℕ) where
  -- a tree begins with each front of its lexemes
  begins : (ws : List Lexeme) (q : ℕ) (t : T) → Spells t ws → Begun Spells (take q ws) t
  begins ws q t s = record { back = drop q ws; spells = subst (λ x. Spells t x) (sym (take-append-drop q ws)) s }

  no_syntax : (ws : List Lexeme) (q : ℕ) (t : T) → IsWithin Spells height limit ws t → IsSyntax Spells height limit ws q → ⊥
  no_syntax ws q t w s = elim s.dead [ inl a ↦ a.1 t (begins ws (q + 1) t w.spells) | inr a ↦ a.1 t w.spells ]

  not_too_deep : (ws : List Lexeme) (q : ℕ) (t : T) → IsWithin Spells height limit ws t → IsTooDeep Spells height limit ws q → ⊥
  not_too_deep ws q t w d = elim d.past [
    | inl high ↦ let h = high t (begins ws (q + 1) t w.spells) in absurd (omega (arith, h, w.low))
    | inr deep ↦ let f = w.few (q + 1) in absurd (omega (arith, deep, f))
  ]

  -- ---- one fault

  -- what begins with lexemes begins with fewer of them
  fewer : (ws : List Lexeme) (m q : ℕ) (t : T) → m ≤ q → Begun Spells (take q ws) t → Begun Spells (take m ws) t
  fewer ws m q t le b =
      let rest : List Lexeme = drop m (take q ws) in
      let front : take m ws ++ rest ≡ take q ws = ap (λ x. x ++ rest) (sym (take-take m q ws le)) ∙ take-append-drop m (take q ws) in
      record { back = rest ++ b.back; spells = subst (λ x. Spells t x) (ap (λ x. x ++ b.back) (sym front) ∙ append_assoc (take m ws) rest b.back) b.spells }

  -- a tree begins with no more lexemes than those before a dead one
  up_to_dead : (ws : List Lexeme) (p q : ℕ) (t : T) → IsDead Spells ws p → q ≤ length ws → Begun Spells (take q ws) t → q ≤ p
  up_to_dead ws p q t d within b = elim (cases_lt p q) [
    | inl lt ↦ elim d [ inl a ↦ absurd (a.1 t (fewer ws (p + 1) q t (omega (arith, lt)) b)) | inr a ↦ absurd (omega (arith, a.0, lt, within)) ]
    | inr le ↦ le
  ]

  -- no more lexemes are within the limits than those before one that passes a limit
  up_to_past : (ws : List Lexeme) (p q : ℕ) → IsPast Spells height limit (take (p + 1) ws) → HasRoom Spells height limit (take q ws) → q ≤ p
  up_to_past ws p q past r = elim (cases_lt p q) [
    | inl lt ↦ elim past [
      | inl high ↦ let h = high r.low.0 (fewer ws (p + 1) q r.low.0 (omega (arith, lt)) r.low.1) in absurd (omega (arith, h, r.low.2))
      | inr deep ↦
          let f : open_behind (take (p + 1) ws) ≤ limit = subst (λ x. open_behind x ≤ limit) (take-take (p + 1) q ws (omega (arith, lt))) (r.few (p + 1)) in
          absurd (omega (arith, deep, f))
    ]
    | inr le ↦ le
  ]

  syntax_within : (ws : List Lexeme) (q : ℕ) → IsSyntax Spells height limit ws q → q ≤ length ws
  syntax_within ws q s = elim s.dead [ inl a ↦ omega (arith, a.0) | inr a ↦ omega (arith, a.0) ]

  one_dead : (ws : List Lexeme) (p q : ℕ) → IsSyntax Spells height limit ws p → IsSyntax Spells height limit ws q → p ≡ q
  one_dead ws p q s t =
      let a = up_to_dead ws q p s.before.low.0 t.dead (syntax_within ws p s) s.before.low.1 in
      let b = up_to_dead ws p q t.before.low.0 s.dead (syntax_within ws q t) t.before.low.1 in
      omega (arith, a, b)

  one_deep : (ws : List Lexeme) (p q : ℕ) → IsTooDeep Spells height limit ws p → IsTooDeep Spells height limit ws q → p ≡ q
  one_deep ws p q d e = omega (arith, up_to_past ws q p e.past d.before, up_to_past ws p q d.past e.before)

  dead_or_deep : (ws : List Lexeme) (p q : ℕ) → IsSyntax Spells height limit ws p → IsTooDeep Spells height limit ws q → ⊥
  dead_or_deep ws p q s d =
      let a = up_to_dead ws p (q + 1) d.begun.0 s.dead (omega (arith, d.inside)) d.begun.1 in
      let b = up_to_past ws q p d.past s.before in
      omega (arith, a, b)

  -- ---- texts

  module _ (language : Words) (text : List ℕ) where
    -- two lists of a text's tokens are one
    same_lexemes : (a b : List Token) → TokensOf language text a → TokensOf language text b → lexemes_of language text a ≡ lexemes_of language text b
    same_lexemes a b x y = ap (lexemes_of language text) (one_list language text a b x y)

    pub one_tree : ((ws : List Lexeme) (s t : T) → Spells s ws → Spells t ws → s ≡ t) → (s t : T) → OfLexemes language (λ ws. IsWithin Spells height limit ws s) text → OfLexemes language (λ ws. IsWithin Spells height limit ws t) text → s ≡ t
    one_tree unique s t x y = unique (lexemes_of language text x.list) s t x.holds.spells (subst (λ ws. Spells t ws) (same_lexemes y.list x.list y.tokens x.tokens) y.holds.spells)

    module _ (t : T) (p : OfLexemes language (λ ws. IsWithin Spells height limit ws t) text) where
      pub no_lexing_fault : (f : LexFault) → FaultOf language text f → ⊥
      no_lexing_fault f c = tokens_or_fault language text p.list f p.tokens c

      pub no_dead_lexeme : (q : ℕ) → OfLexemes language (λ ws. IsSyntax Spells height limit ws q) text → ⊥
      no_dead_lexeme q c = no_syntax (lexemes_of language text p.list) q t p.holds (subst (λ ws. IsSyntax Spells height limit ws q) (same_lexemes c.list p.list c.tokens p.tokens) c.holds)

      pub no_deep_lexeme : (q : ℕ) → OfLexemes language (λ ws. IsTooDeep Spells height limit ws q) text → ⊥
      no_deep_lexeme q c = not_too_deep (lexemes_of language text p.list) q t p.holds (subst (λ ws. IsTooDeep Spells height limit ws q) (same_lexemes c.list p.list c.tokens p.tokens) c.holds)

    pub one_dead_lexeme : (p q : ℕ) → OfLexemes language (λ ws. IsSyntax Spells height limit ws p) text → OfLexemes language (λ ws. IsSyntax Spells height limit ws q) text → p ≡ q
    one_dead_lexeme p q x y = one_dead (lexemes_of language text x.list) p q x.holds (subst (λ ws. IsSyntax Spells height limit ws q) (same_lexemes y.list x.list y.tokens x.tokens) y.holds)

    pub one_deep_lexeme : (p q : ℕ) → OfLexemes language (λ ws. IsTooDeep Spells height limit ws p) text → OfLexemes language (λ ws. IsTooDeep Spells height limit ws q) text → p ≡ q
    one_deep_lexeme p q x y = one_deep (lexemes_of language text x.list) p q x.holds (subst (λ ws. IsTooDeep Spells height limit ws q) (same_lexemes y.list x.list y.tokens x.tokens) y.holds)

    pub dead_or_deep_lexeme : (p q : ℕ) → OfLexemes language (λ ws. IsSyntax Spells height limit ws p) text → OfLexemes language (λ ws. IsTooDeep Spells height limit ws q) text → ⊥
    dead_or_deep_lexeme p q x y = dead_or_deep (lexemes_of language text x.list) p q x.holds (subst (λ ws. IsTooDeep Spells height limit ws q) (same_lexemes y.list x.list y.tokens x.tokens) y.holds)
