-- Steps of a reader of expressions: what each says of the lexemes, and a number as the shortest expression.
use Rattle.std.proofs.Common.{◌≡◌, ℕ, zero, suc, ◌+◌, ◌≤◌, Bool, true, false, cond, List, [], ◌∷◌, Option, Some, None, Ok, Err, refl, sym, subst, arith}
use Rattle.std.specs.Prelude.{slice_get, nat_le}
use Rattle.std.specs.Cmp.Lexicographic.{same_text as texts_same}
use Rattle.std.proofs.lemmas.Bool.{leb-true}
use Rattle.lex_text.specs.Names.{same_text}
use Rattle.lex_text.specs.declared.literal.Literal.{Literal}
use Rattle.lex_words.specs.declared.key.Key.TheVariants.{Bit, Less, More}
use Rattle.lex_words.specs.declared.key.Key.TheVariants as k
use Rattle.lex_words.specs.Seen.{Lexeme, name, number, key, name_in, number_in, at_key}
use Rattle.lex_words.specs.Reading.{wrong, Read, ◌>>=◌}
use Rattle.lex_words.proofs.KeyCodes.{name_lexeme, number_lexeme}
use Rattle.lex_words.proofs.Spelled.{Ends, Reads, Reads-lexeme, Reads-wrong, Reads-ok, Reads-cond, Reads-expect}
use Rattle.p4_tree.specs.Tree.{Expr, num}
use Rattle.p4_tree.specs.declared.statement.PTy.TheVariants as type
use Rattle.p4_spelling.specs.Words.{outcome_name}
use Rattle.p4_spelling.specs.Types.{SpellsScalar, a_bool, a_bit, bits}
use Rattle.p4_spelling.specs.Expressions.{Spells, a_number, a_postfix, tighter}
use Rattle.p4_expressions.specs.Reading.{small, outcome, small_at, width_at, bits_at, truth_at, scalar_at, outcome_at}

-- ---- the shortest expression

abbrev pub zero_lexeme : Literal
zero_lexeme = record { width = 0; value = 0 }

-- a name, where one is wanted
abbrev pub some_name : List ℕ
some_name = 120 ∷ []

-- what has no bound
abbrev pub Any : {A : Type 0} → A → Type 0
Any a = Unit {0}

-- what is spelled on level 0 is spelled on each level
pub on_level : (l p : ℕ) (a : Expr) (u : List Lexeme) → Spells 0 p a u → Spells l p a u
on_level zero p a u s = s
on_level (suc l) p a u s = tighter (on_level l p a u s)

pub a_number_up : (l p : ℕ) (v : Literal) → Spells l p (num p v) (number v ∷ [])
a_number_up l p v = on_level l p (num p v) (number v ∷ []) (a_postfix (a_number v))

-- the same text
pub text_is : (s t : List ℕ) → same_text s t ≡ true → s ≡ t
text_is s t e = texts_same s t (sym e)

module _ (ws : List Lexeme) (n : ℕ) where
  -- ---- a number of a type or a slice

  pub Reads-small : {B : Type 0} (T : B → List Lexeme → Type 0) (K : B → Type 0) (b d p : ℕ) (f : ℕ × ℕ → Read B) → ((x : Literal) → x.value ≤ 255 → Ends T K (number x ∷ []))
      → ((x : Literal) → x.value ≤ 255 → slice_get ws p ≡ Some (number x) → Reads ws (λ a v. T a (number x ∷ v)) K b d (p + 1) (f (x.value, p + 1))) → Reads ws T K b d p (small_at ws n p >>= f)
  unfolding small_at
  Reads-small T K b d p f short go = by (number_in (slice_get ws p)) (λ x e. number_lexeme x (slice_get ws p) e)
    where
      no_number : Reads ws T K b d p (Err (wrong p))
      no_number = Reads-wrong ws T K b d p

      tested : (x : Literal) (z : Bool) → (z ≡ true → x.value ≤ 255) → slice_get ws p ≡ Some (number x) → Reads ws T K b d p (cond z (Ok (x.value, p + 1)) (Err (wrong p)) >>= f)
      tested x true low is = Reads-lexeme ws T K b b d p (number x) (f (x.value, p + 1)) is refl (short x (low refl)) (go x (low refl) is)
      tested x false low is = no_number

      by : (o : Option Literal) → ((x : Literal) → o ≡ Some x → slice_get ws p ≡ Some (number x)) → Reads ws T K b d p (small p o >>= f)
      by None is = no_number
      by (Some x) is = tested x (nat_le x.value 255) (λ e. leb-true x.value 255 e) (is x refl)

  -- ---- what is asked of a table

  pub Reads-outcome : {B : Type 0} (T : B → List Lexeme → Type 0) (K : B → Type 0) (b d p : ℕ) (f : Bool × ℕ → Read B) → ((hit : Bool) → Ends T K (name (outcome_name hit) ∷ []))
      → ((hit : Bool) → Reads ws (λ a v. T a (name (outcome_name hit) ∷ v)) K b d (p + 1) (f (hit, p + 1))) → Reads ws T K b d p (outcome_at ws n p >>= f)
  unfolding outcome_at
  Reads-outcome T K b d p f short go = by (name_in (slice_get ws p)) (λ x e. name_lexeme x (slice_get ws p) e)
    where
      no_outcome : Reads ws T K b d p (Err (wrong p))
      no_outcome = Reads-wrong ws T K b d p

      one : (hit : Bool) → slice_get ws p ≡ Some (name (outcome_name hit)) → Reads ws T K b d p (f (hit, p + 1))
      one hit is = Reads-lexeme ws T K b b d p (name (outcome_name hit)) (f (hit, p + 1)) is refl (short hit) (go hit)

      tested : (x : List ℕ) (y z : Bool) → (y ≡ true → x ≡ outcome_name true) → (z ≡ true → x ≡ outcome_name false) → slice_get ws p ≡ Some (name x)
          → Reads ws T K b d p (cond y (Ok (true, p + 1)) (cond z (Ok (false, p + 1)) (Err (wrong p))) >>= f)
      tested x true z e g is = one true (subst (λ s. slice_get ws p ≡ Some (name s)) (e refl) is)
      tested x false true e g is = one false (subst (λ s. slice_get ws p ≡ Some (name s)) (g refl) is)
      tested x false false e g is = no_outcome

      by : (o : Option (List ℕ)) → ((x : List ℕ) → o ≡ Some x → slice_get ws p ≡ Some (name x)) → Reads ws T K b d p (outcome p o >>= f)
      by None is = no_outcome
      by (Some x) is = tested x (same_text x (outcome_name true)) (same_text x (outcome_name false)) (text_is x (outcome_name true)) (text_is x (outcome_name false)) (is x refl)

  -- ---- types

  Reads-width : (b i : ℕ) → Reads ws (λ t v. SpellsScalar t (key Bit ∷ v)) Any b b i (width_at ws n i)
  unfolding width_at
  Reads-width b i =
      Reads-expect ws _ _ b b b i Less _ (type.Bit 0) (number zero_lexeme ∷ key More ∷ []) refl (bits zero_lexeme (omega arith)) tt
      (Reads-small _ _ b b (i + 1) _ (λ v low. (type.Bit v.value, key More ∷ [], bits v low, tt)) (λ v low w.
      Reads-expect ws _ _ b b b (i + 1 + 1) More _ (type.Bit v.value) [] refl (bits v low) tt
      (Reads-ok ws _ _ b (i + 1 + 1 + 1) _ (bits v low) tt)))

  Reads-bits : (b i : ℕ) → Reads ws SpellsScalar Any b b i (bits_at ws n i)
  unfolding bits_at
  Reads-bits b i =
      Reads-expect ws _ _ b b b i Bit _ (type.Bit 1) [] refl a_bit tt
      (Reads-cond ws _ _ b b (i + 1) (at_key Less (slice_get ws (i + 1))) _ _ (λ _. Reads-width b (i + 1)) (λ _. Reads-ok ws _ _ b (i + 1) _ a_bit tt))

  pub Reads-scalar : (b i : ℕ) → Reads ws SpellsScalar Any b b i (scalar_at ws n i)
  unfolding scalar_at truth_at
  Reads-scalar b i =
      Reads-cond ws _ _ b b i (at_key k.Bool (slice_get ws i)) _ _
      (λ _. Reads-expect ws _ _ b b b i k.Bool _ type.Bool [] refl a_bool tt (Reads-ok ws _ _ b (i + 1) _ a_bool tt))
      (λ _. Reads-bits b i)
