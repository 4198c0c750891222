-- Operands: what is read is spelled so.
use Rattle.std.proofs.Common.{◌≡◌, ℕ, suc, ◌+◌, ◌-◌, ◌≤◌, Bool, true, false, List, [], ◌∷◌, ◌++◌, Option, Some, None, is_some, refl, sym, ap, subst, arith}
use Rattle.std.proofs.lemmas.List.{append-nil}
use Rattle.std.specs.Prelude.{slice_get}
use Rattle.lex_text.specs.declared.literal.Literal.{Literal}
use Rattle.lex_words.specs.declared.key.Key.TheVariants.{True, False, Bit, Length, Not, Tilde, Open, Close, SquareOpen, SquareClose, Less, More}
use Rattle.lex_words.specs.Seen.{Lexeme, name, number, key, name_in, number_in, at_key}
use Rattle.lex_words.specs.Brackets.{left_by}
use Rattle.lex_words.proofs.KeyCodes.{at_key-is, name_lexeme, number_lexeme}
use Rattle.lex_words.proofs.Spelled.{Reads, Reads-bind, Reads-lexeme, Reads-wrong, Reads-ok, Reads-cond, Reads-expect, Reads-room, Reads-named, Reads-numbered, Reads-open}
use Rattle.indus_tree.specs.Tree.{Expr, num, flag, read, count, index, negation, inversion, cast, exprs_from}
use Rattle.indus_spelling.specs.Operators.{top, IsSize}
use Rattle.indus_spelling.specs.Expressions.{Spells, SpellsAll, a_number, a_true, a_false, a_name, an_index, a_length, a_not, an_inversion, a_cast, in_brackets, last}
use Rattle.indus_expressions.specs.Reading.{Reader, flag_at, numeral_at, index_at, variable_at, count_at, negation_at, inversion_at, cast_at, bracket_at, opened_at, leaf_at, operand_at}
use Rattle.indus_expressions.proofs.SoundSteps.{zero_lexeme, some_name, zero_size, a_number_up, Reads-sized}
use Rattle.indus_expressions.proofs.SoundLists.{Low, LowAll, ReadsEach, Reads-list}

some_is : {A : Type 0} (o : Option A) → is_some o ≡ true → (x : A) × (o ≡ Some x)
some_is None e = absurd cc
some_is (Some x) e = (x, refl)

abbrev cast_lexemes : Literal → List Lexeme → List Lexeme
cast_lexemes v u = key Open ∷ key Bit ∷ key Less ∷ number v ∷ key More ∷ key Close ∷ u

cast_from : (p i : ℕ) (v : Literal) (a : Expr) (u : List Lexeme) → IsSize v → i ≡ p + 1 → Spells 0 (i + 1 + 1 + 1 + 1 + 1) a u → Spells 0 p (cast p v.value a) (cast_lexemes v u)
cast_from p i v a u size e t = a_cast v size (subst (λ x. Spells 0 (x + 1 + 1 + 1 + 1 + 1) a u) e t)

index_from : (p i : ℕ) (s : List ℕ) (ts : List Expr) (v : List Lexeme) → i ≡ p + 1 → SpellsAll (i + 1) (exprs_from ts) v
    → Spells 0 p (index p s (exprs_from ts)) (name s ∷ key SquareOpen ∷ (v ++ key SquareClose ∷ []))
index_from p i s ts v e al = an_index s (subst (λ x. SpellsAll (x + 1) (exprs_from ts) v) e al)

module _ (ws : List Lexeme) (n : ℕ) (inside below : Reader) (h b : ℕ) (lower : (g : ℕ) → h ≡ suc g → ReadsEach ws below g b) (within : (c : ℕ) → b ≡ suc c → ReadsEach ws inside h c) where
  -- where a node may stand above others
  abbrev Room : Type 0
  Room = (g : ℕ) × (h ≡ suc g) × (1 ≤ g)

  room_is : 2 ≤ h → Room
  room_is le = (h - 1, omega (arith, le), omega (arith, le))

  Reads-flag : (v : Bool) (w : Lexeme) (i : ℕ) → slice_get ws i ≡ Some w → left_by w b ≡ Some b → Spells 0 i (flag i v) (w ∷ []) → Reads ws (Spells 0 i) (Low h) b b i (flag_at ws n v h i)
  unfolding flag_at
  Reads-flag v w i e l s = Reads-room ws _ _ b b i 1 h _ w (flag i v) [] e s (λ le. Reads-lexeme ws _ _ b b b i w _ e l (flag i v, [], s, le) (Reads-ok ws _ _ b (i + 1) _ s le))

  Reads-negation : (i : ℕ) → Room → Reads ws (Spells 0 i) (Low h) b b i (negation_at ws n below i)
  unfolding negation_at
  Reads-negation i g =
      Reads-expect ws _ _ b b b i Not _ (negation i (num (i + 1) zero_lexeme)) (number zero_lexeme ∷ []) refl (a_not (a_number zero_lexeme)) (omega arith)
      (Reads-bind ws (Spells 0 (i + 1)) _ (Low g.0) _ b b b (i + 1) _ _ (lower g.0 g.1 0 (i + 1))
      (λ a v t. (negation i a, [], rw (append-nil v) (a_not t), λ fits. omega arith))
      (λ x v st t low. Reads-ok ws _ _ b x.1 _ (rw (append-nil v) (a_not t)) (omega (arith, g.1, low))))

  Reads-inversion : (i : ℕ) → Room → Reads ws (Spells 0 i) (Low h) b b i (inversion_at ws n below i)
  unfolding inversion_at
  Reads-inversion i g =
      Reads-expect ws _ _ b b b i Tilde _ (inversion i (num (i + 1) zero_lexeme)) (number zero_lexeme ∷ []) refl (an_inversion (a_number zero_lexeme)) (omega arith)
      (Reads-bind ws (Spells 0 (i + 1)) _ (Low g.0) _ b b b (i + 1) _ _ (lower g.0 g.1 0 (i + 1))
      (λ a v t. (inversion i a, [], rw (append-nil v) (an_inversion t), λ fits. omega arith))
      (λ x v st t low. Reads-ok ws _ _ b x.1 _ (rw (append-nil v) (an_inversion t)) (omega (arith, g.1, low))))

  Reads-numeral : (i : ℕ) → 1 ≤ h → Reads ws (Spells 0 i) (Low h) b b i (numeral_at ws n h i)
  unfolding numeral_at
  Reads-numeral i le = Reads-numbered ws n _ _ b b i _ (λ v. (num i v, [], a_number v, le)) (λ v w. Reads-ok ws _ _ b (i + 1) _ (a_number v) le)

  Reads-count : (i : ℕ) → 1 ≤ h → Reads ws (Spells 0 i) (Low h) b b i (count_at ws n b i)
  unfolding count_at
  Reads-count i le =
      Reads-expect ws _ _ b b b i Length _ (count i some_name) (key Open ∷ name some_name ∷ key Close ∷ []) refl (a_length some_name) (omega arith)
      (Reads-open ws n _ _ b b (i + 1) _ (count i some_name) (name some_name ∷ key Close ∷ []) (a_length some_name) (omega arith) (λ c e.
      Reads-named ws n _ _ c b (i + 1 + 1) _ (λ s. (count i s, key Close ∷ [], a_length s, le)) (λ s w.
      Reads-expect ws _ _ c b b (i + 1 + 1 + 1) Close _ (count i s) [] (ap (λ (x : ℕ). Some x) (sym e)) (a_length s) (omega arith)
      (Reads-ok ws _ _ b (i + 1 + 1 + 1 + 1) _ (a_length s) le))))

  -- behind the name s at p
  Reads-index : (p i : ℕ) (s : List ℕ) → i ≡ p + 1 → Room → Reads ws (λ t v. Spells 0 p t (name s ∷ v)) (Low h) b b i (index_at ws n below p s i)
  unfolding index_at
  Reads-index p i s e g =
      Reads-expect ws _ _ b b b i SquareOpen _ (index p s (exprs_from (num (i + 1) zero_lexeme ∷ []))) (number zero_lexeme ∷ key SquareClose ∷ []) refl
      (index_from p i s (num (i + 1) zero_lexeme ∷ []) (number zero_lexeme ∷ []) e (last (a_number_up top (i + 1) zero_lexeme))) (omega arith)
      (Reads-bind ws (λ ts v. SpellsAll (i + 1) (exprs_from ts) v) _ (LowAll g.0) _ b b b (i + 1) _ _ (Reads-list ws n below g.0 b (lower g.0 g.1) (i + 1))
      (λ ts v al. (index p s (exprs_from ts), key SquareClose ∷ [], index_from p i s ts v e al, λ fits. omega arith))
      (λ x v st al low. Reads-expect ws _ _ b b b x.1 SquareClose _ (index p s (exprs_from x.0)) [] refl (index_from p i s x.0 v e al) (omega arith)
      (Reads-ok ws _ _ b (x.1 + 1) _ (index_from p i s x.0 v e al) (omega (arith, low, g.1)))))

  Reads-variable : (i : ℕ) → 1 ≤ h → Reads ws (Spells 0 i) (Low h) b b i (variable_at ws n below h i)
  unfolding variable_at
  Reads-variable i le =
      Reads-named ws n _ _ b b i _ (λ s. (read i s, [], a_name s, le)) (λ s w.
      Reads-cond ws _ _ b b (i + 1) (at_key SquareOpen (slice_get ws (i + 1))) _ _
      (λ e. Reads-room ws _ _ b b (i + 1) 2 h _ (key SquareOpen) (index i s (exprs_from (num (i + 1 + 1) zero_lexeme ∷ []))) (number zero_lexeme ∷ key SquareClose ∷ [])
      (at_key-is SquareOpen (slice_get ws (i + 1)) e) (an_index s (last (a_number_up top (i + 1 + 1) zero_lexeme)))
      (λ two. Reads-index i (i + 1) s refl (room_is two)))
      (λ e. Reads-ok ws _ _ b (i + 1) _ (a_name s) le))

  -- behind "(" at p, which leaves c
  Reads-cast : (p i c : ℕ) → i ≡ p + 1 → b ≡ suc c → Room → Reads ws (λ t v. Spells 0 p t (key Open ∷ v)) (Low h) c b i (cast_at ws n below p i)
  unfolding cast_at
  Reads-cast p i c e d g =
      let z = num (i + 1 + 1 + 1 + 1 + 1) zero_lexeme in
      let short : (v : Literal) → IsSize v → Spells 0 p (cast p v.value z) (cast_lexemes v (number zero_lexeme ∷ [])) = λ v size. cast_from p i v z (number zero_lexeme ∷ []) size e (a_number zero_lexeme) in
      Reads-expect ws _ _ c c b i Bit _ (cast p 0 z) _ refl (short zero_lexeme zero_size) (omega arith)
      (Reads-expect ws _ _ c c b (i + 1) Less _ (cast p 0 z) _ refl (short zero_lexeme zero_size) (omega arith)
      (Reads-sized ws n _ _ c b (i + 1 + 1) _ (λ v size. (cast p v.value z, key More ∷ key Close ∷ number zero_lexeme ∷ [], short v size, omega (arith, g.1, g.2))) (λ v size w.
      Reads-expect ws _ _ c c b (i + 1 + 1 + 1) More _ (cast p v.value z) _ refl (short v size) (omega arith)
      (Reads-expect ws _ _ c b b (i + 1 + 1 + 1 + 1) Close _ (cast p v.value z) _ (ap (λ (x : ℕ). Some x) (sym d)) (short v size) (omega arith)
      (Reads-bind ws (Spells 0 (i + 1 + 1 + 1 + 1 + 1)) _ (Low g.0) _ b b b (i + 1 + 1 + 1 + 1 + 1) _ _ (lower g.0 g.1 0 (i + 1 + 1 + 1 + 1 + 1))
      (λ a u t. (cast p v.value a, [], rw (append-nil u) (cast_from p i v a u size e t), λ fits. omega arith))
      (λ x u st t low. Reads-ok ws _ _ b x.1 _ (rw (append-nil u) (cast_from p i v x.0 u size e t)) (omega (arith, low, g.1))))))))

  Reads-bracket : (p i c : ℕ) → i ≡ p + 1 → b ≡ suc c → Reads ws (λ t v. Spells 0 p t (key Open ∷ v)) (Low h) c b i (bracket_at ws n inside i)
  unfolding bracket_at
  Reads-bracket p i c e d =
      let at : (a : Expr) (v : List Lexeme) → Spells top i a v → Spells 0 p a (key Open ∷ (v ++ key Close ∷ [])) = λ a v t. in_brackets (subst (λ x. Spells top x a v) e t) in
      Reads-bind ws (Spells top i) _ (Low h) _ c c b i _ _ (within c d top i)
      (λ a v t. (a, key Close ∷ [], at a v t, λ fits. omega arith))
      (λ x v st t low. Reads-expect ws _ _ c b b x.1 Close _ x.0 [] (ap (λ (z : ℕ). Some z) (sym d)) (at x.0 v t) (omega arith)
      (Reads-ok ws _ _ b (x.1 + 1) _ (at x.0 v t) low))

  Reads-opened : (i : ℕ) → 1 ≤ h → Reads ws (Spells 0 i) (Low h) b b i (opened_at ws n inside below h b i)
  unfolding opened_at
  Reads-opened i le =
      Reads-open ws n _ _ b b i _ (num (i + 1) zero_lexeme) (number zero_lexeme ∷ key Close ∷ []) (in_brackets (a_number_up top (i + 1) zero_lexeme)) (omega arith) (λ c d.
      Reads-cond ws _ _ c b (i + 1) (at_key Bit (slice_get ws (i + 1))) _ _
      (λ e. Reads-room ws _ _ c b (i + 1) 2 h _ (key Bit) (cast i 0 (num (i + 1 + 1 + 1 + 1 + 1 + 1) zero_lexeme)) (key Less ∷ number zero_lexeme ∷ key More ∷ key Close ∷ number zero_lexeme ∷ [])
      (at_key-is Bit (slice_get ws (i + 1)) e) (a_cast zero_lexeme zero_size (a_number zero_lexeme))
      (λ two. Reads-cast i (i + 1) c refl d (room_is two)))
      (λ _. Reads-bracket i (i + 1) c refl d))

  Reads-leaf : (i : ℕ) → Reads ws (Spells 0 i) (Low h) b b i (leaf_at ws n below h i)
  unfolding leaf_at
  Reads-leaf i =
      Reads-cond ws _ _ b b i (is_some (name_in (slice_get ws i))) _ _
      (λ e. let x = some_is (name_in (slice_get ws i)) e in
      Reads-room ws _ _ b b i 1 h _ (name x.0) (read i x.0) [] (name_lexeme x.0 (slice_get ws i) x.1) (a_name x.0) (λ le. Reads-variable i le))
      (λ _. Reads-cond ws _ _ b b i (is_some (number_in (slice_get ws i))) _ _
      (λ e. let x = some_is (number_in (slice_get ws i)) e in
      Reads-room ws _ _ b b i 1 h _ (number x.0) (num i x.0) [] (number_lexeme x.0 (slice_get ws i) x.1) (a_number x.0) (λ le. Reads-numeral i le))
      (λ _. Reads-wrong ws _ _ b b i))

  pub Reads-operand : (i : ℕ) → Reads ws (Spells 0 i) (Low h) b b i (operand_at ws n inside below h b i)
  unfolding operand_at
  Reads-operand i =
      Reads-cond ws _ _ b b i (at_key True (slice_get ws i)) _ _ (λ e. Reads-flag true (key True) i (at_key-is True (slice_get ws i) e) refl a_true) (λ _.
      Reads-cond ws _ _ b b i (at_key False (slice_get ws i)) _ _ (λ e. Reads-flag false (key False) i (at_key-is False (slice_get ws i) e) refl a_false) (λ _.
      Reads-cond ws _ _ b b i (at_key Not (slice_get ws i)) _ _
      (λ e. Reads-room ws _ _ b b i 2 h _ (key Not) (negation i (num (i + 1) zero_lexeme)) (number zero_lexeme ∷ []) (at_key-is Not (slice_get ws i) e) (a_not (a_number zero_lexeme)) (λ two. Reads-negation i (room_is two))) (λ _.
      Reads-cond ws _ _ b b i (at_key Tilde (slice_get ws i)) _ _
      (λ e. Reads-room ws _ _ b b i 2 h _ (key Tilde) (inversion i (num (i + 1) zero_lexeme)) (number zero_lexeme ∷ []) (at_key-is Tilde (slice_get ws i) e) (an_inversion (a_number zero_lexeme)) (λ two. Reads-inversion i (room_is two))) (λ _.
      Reads-cond ws _ _ b b i (at_key Length (slice_get ws i)) _ _
      (λ e. Reads-room ws _ _ b b i 1 h _ (key Length) (count i some_name) (key Open ∷ name some_name ∷ key Close ∷ []) (at_key-is Length (slice_get ws i) e) (a_length some_name) (λ le. Reads-count i le)) (λ _.
      Reads-cond ws _ _ b b i (at_key Open (slice_get ws i)) _ _
      (λ e. Reads-room ws _ _ b b i 1 h _ (key Open) (num (i + 1) zero_lexeme) (number zero_lexeme ∷ key Close ∷ []) (at_key-is Open (slice_get ws i) e) (in_brackets (a_number_up top (i + 1) zero_lexeme)) (λ le. Reads-opened i le)) (λ _.
      Reads-leaf i))))))
