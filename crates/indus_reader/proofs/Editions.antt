-- The edition line: what is read of it rests on the lexemes up to its end, what is spelled is read, and what is read is spelled so.
use Rattle.std.proofs.Common.{◌≡◌, ℕ, ◌+◌, Bool, true, false, cond, List, [], ◌∷◌, Option, Some, None, Ok, Err, refl, ap, ◌∙◌, arith}
use Rattle.std.specs.Prelude.{slice_get}
use Rattle.std.proofs.lemmas.Bool.{and_parts, eqb-true}
use Rattle.lex_text.specs.declared.literal.Literal.{Literal}
use Rattle.lex_words.specs.declared.key.Key.TheVariants.{Edition, BraceOpen, Semicolon}
use Rattle.lex_words.specs.Seen.{Lexeme, number, key, number_in, at_key}
use Rattle.lex_words.specs.Reading.{wrong, Read, ◌>>=◌, look}
use Rattle.lex_words.proofs.KeyCodes.{at_key-is, number_lexeme}
use Rattle.lex_words.proofs.Locality.{Follows, Follows-bind, Follows-later, Follows-look, Follows-cond, Follows-wrong, Follows-ok, Follows-expect, Follows-test}
use Rattle.lex_words.proofs.Loops.{then_ok}
use Rattle.lex_words.proofs.Spelled.{Ends, Reads, Reads-lexeme, Reads-wrong, Reads-ok, Reads-cond, Reads-expect}
use Rattle.lex_words.proofs.Standing.{Stands, Stands-split}
use Rattle.indus_tree.specs.Tree.{Decl}
use Rattle.indus_spelling.specs.Declarations.{SpellsDecl, a_tele, a_sensor, a_header, a_control, SpellsDecls, no_decl, a_decl}
use Rattle.indus_spelling.specs.Properties.{two, SpellsEdition, first_edition, second_edition}
use Rattle.indus_expressions.proofs.CompleteSteps.{expect_ok}
use Rattle.indus_reader.specs.Reading.{is_two, second, second_at, edition_at}
use Rattle.indus_reader.proofs.SoundTypes.{Any}

-- ---- two readings, of the lexemes ws and vs

module _ (ws vs : List Lexeme) (Hs Bs : Type 0) (n m b c : ℕ) where
  second_follows : (i : ℕ) → Follows ws vs Hs Bs i (second_at ws n b i) (second_at vs m c i)
  unfolding second_at look
  second_follows i = Follows-look ws vs Hs Bs i (λ o. second i (number_in o)) (λ o. second i (number_in o)) (λ o. go (number_in o))
    where
      go : (o : Option Literal) → Follows ws vs Hs Bs i (second i o) (second i o)
      go None = Follows-wrong ws vs Hs Bs i
      go (Some v) = Follows-cond ws vs Hs Bs i (is_two v) _ _ _ _ (Follows-ok ws vs Hs Bs i (i + 1) 2 (omega arith)) (Follows-wrong ws vs Hs Bs i)

  pub Follows-edition : (i : ℕ) → Follows ws vs Hs Bs i (edition_at ws n b i) (edition_at vs m c i)
  unfolding edition_at
  Follows-edition i =
      Follows-test ws vs Hs Bs i (at_key Edition) _ _ _ _
      (Follows-later ws vs Hs Bs i _ _ (Follows-bind ws vs Hs Bs (i + 1) _ _ _ _ (second_follows (i + 1)) (λ v.
      Follows-bind ws vs Hs Bs v.1 _ _ _ _ (Follows-expect ws vs Hs Bs Semicolon v.1) (λ s. Follows-ok ws vs Hs Bs s.1 s.1 _ (omega arith)))))
      (Follows-ok ws vs Hs Bs i i _ (omega arith))

-- ---- what is spelled is read

module _ (ws : List Lexeme) (n b : ℕ) where
  decl_begins : {p : ℕ} {d : Decl} {u : List Lexeme} → SpellsDecl p d u → (q : ℕ) → Stands ws p u q → at_key Edition (slice_get ws p) ≡ false
  decl_begins (a_tele x t) q st = ap (at_key Edition) st.0
  decl_begins (a_sensor x t z) q st = ap (at_key Edition) st.0
  decl_begins (a_header x s z) q st = ap (at_key Edition) st.0
  decl_begins (a_control x t) q st = ap (at_key Edition) st.0

  -- what stands in front of the first block begins with no edition line
  pub decls_begin : {p : ℕ} {ds : List Decl} {u : List Lexeme} → SpellsDecls p ds u → (q : ℕ) → Stands ws p u q → slice_get ws q ≡ Some (key BraceOpen) → at_key Edition (slice_get ws p) ≡ false
  decls_begin no_decl q st brace = ap (λ i. at_key Edition (slice_get ws i)) st ∙ ap (at_key Edition) brace
  decls_begin {p = p} (a_decl {u = u} {v = v} d r) q st brace = decl_begins d _ (Stands-split ws p q u v st).0

  second_is : (i : ℕ) → slice_get ws i ≡ Some (number two) → second_at ws n b i ≡ Ok (2, i + 1)
  unfolding second_at
  second_is i e = rw e refl

  pub edition_is_read : {e : ℕ} {u : List Lexeme} → SpellsEdition e u → (p q : ℕ) → Stands ws p u q → at_key Edition (slice_get ws q) ≡ false → edition_at ws n b p ≡ Ok (e, q)
  unfolding edition_at
  edition_is_read first_edition p q st free =
      let here : at_key Edition (slice_get ws p) ≡ false = ap (λ i. at_key Edition (slice_get ws i)) st ∙ free in
      rw here (ap (λ i. Ok (1, i)) st)
  edition_is_read second_edition p q st free =
      rw st.0 (then_ok _ _ (2, p + 1 + 1) (second_is (p + 1) st.1.0) ∙ then_ok _ _ (Semicolon, p + 1 + 1 + 1) (expect_ok ws n Semicolon (p + 1 + 1) st.1.1.0) ∙ ap (λ i. Ok (2, i)) st.1.1.1)

-- ---- what is read is spelled so

is_two-two : (v : Literal) → is_two v ≡ true → v ≡ two
is_two-two v e =
    let h = and_parts _ _ e in
    ap (λ (w : ℕ). record v { width = w }) (eqb-true v.width 0 h.0) ∙ ap (λ (x : ℕ). record two { value = x }) (eqb-true v.value 2 h.1)

module _ (ws : List Lexeme) (n c : ℕ) where
  Reads-second : {B : Type 0} (T : B → List Lexeme → Type 0) (K : B → Type 0) (b d p : ℕ) (f : ℕ × ℕ → Read B) → Ends T K (number two ∷ []) → Reads ws (λ a v. T a (number two ∷ v)) K b d (p + 1) (f (2, p + 1))
      → Reads ws T K b d p (second_at ws n c p >>= f)
  unfolding second_at
  Reads-second T K b d p f short on = by (number_in (slice_get ws p)) (λ x e. number_lexeme x (slice_get ws p) e)
    where
      dead : Reads ws T K b d p (Err (wrong p))
      dead = Reads-wrong ws T K b d p

      tested : (x : Literal) (z : Bool) → (z ≡ true → x ≡ two) → slice_get ws p ≡ Some (number x) → Reads ws T K b d p (cond z (Ok (2, p + 1)) (Err (wrong p)) >>= f)
      tested x true same is = Reads-lexeme ws T K b b d p (number two) (f (2, p + 1)) (is ∙ ap (λ (y : Literal). Some (number y)) (same refl)) refl short on
      tested x false same is = dead

      by : (o : Option Literal) → ((x : Literal) → o ≡ Some x → slice_get ws p ≡ Some (number x)) → Reads ws T K b d p (second p o >>= f)
      by None is = dead
      by (Some x) is = tested x (is_two x) (λ e. is_two-two x e) (is x refl)

  pub Reads-edition : (b p : ℕ) → Reads ws SpellsEdition Any b b p (edition_at ws n c p)
  unfolding edition_at
  Reads-edition b p =
      Reads-cond ws _ _ b b p (at_key Edition (slice_get ws p)) _ _
      (λ e. Reads-lexeme ws _ _ b b b p (key Edition) _ (at_key-is Edition (slice_get ws p) e) refl (2, number two ∷ key Semicolon ∷ [], second_edition, tt)
      (Reads-second _ _ b b (p + 1) _ (2, key Semicolon ∷ [], second_edition, tt)
      (Reads-expect ws _ _ b b b (p + 1 + 1) Semicolon _ 2 [] refl second_edition tt (Reads-ok ws _ _ b (p + 1 + 1 + 1) 2 second_edition tt))))
      (λ _. Reads-ok ws _ _ b p 1 first_edition tt)
