-- What is read where the parts stand: one step for each production.
use Rattle.std.proofs.Common.{◌≡◌, ℕ, zero, suc, ◌+◌, ◌-◌, ◌≤◌, ◌<◌, Bool, true, false, cond, List, [], ◌∷◌, ◌++◌, length, length-append, Some, Result, Ok, refl, sym, ap, ◌∙◌, arith}
use Rattle.std.proofs.lemmas.Bool.{le-ltb, le-leb}
use Rattle.std.specs.Prelude.{slice_get}
use Rattle.lex_text.specs.Names.{parent}
use Rattle.lex_text.specs.declared.literal.Literal.{Literal}
use Rattle.lex_words.specs.declared.key.Key.{Key}
use Rattle.lex_words.specs.declared.key.Key.TheVariants.{True, False, Bit, Error, Not, Tilde, Minus, Question, Colon, Dot, Open, Close, SquareOpen, SquareClose, Less, More}
use Rattle.lex_words.specs.declared.key.Key.TheVariants as k
use Rattle.lex_words.specs.Seen.{Lexeme, name, number, key, at_key}
use Rattle.lex_words.specs.Reading.{Fault, Read, ◌>>=◌, either, expect_at, more_of, room_at, named_at, numbered_at, open_at}
use Rattle.lex_words.proofs.KeyCodes.{at_key-same}
use Rattle.lex_words.proofs.Standing.{Stands}
use Rattle.p4_tree.specs.Tree.{Expr, num, flag, path, valid, applied, error_name, negation, inversion, opposite, conditional, slice, cast}
use Rattle.p4_tree.specs.Height.{expr_height}
use Rattle.p4_tree.specs.declared.statement.PTy.{PTy}
use Rattle.p4_tree.specs.declared.statement.PTy.TheVariants as type
use Rattle.p4_spelling.specs.Words.{valid_name, apply_name, outcome_name}
use Rattle.p4_spelling.specs.Operators.{top}
use Rattle.p4_spelling.specs.Types.{SpellsScalar, a_bool, a_bit, bits}
use Rattle.p4_spelling.specs.Expressions.{SpellsPath, last_name, then_names}
use Rattle.p4_expressions.specs.Reading.{Reader, last_of, is_called, is_scalar, small_at, width_at, bits_at, truth_at, scalar_at, more_names_at, names_at, validity_at, outcome_at, application_at, applied_at, called_at, call_of, path_at, flag_at, numeral_at, error_at, leaf_at, bounds_at, slices_at, postfix_at, negation_at, inversion_at, opposite_at, cast_at, bracket_at, opened_at, operand_at, branches_at, conditional_at}
use Rattle.p4_expressions.proofs.LastNames.{last_of-append, parent-append}

-- ---- steps

pub goes_on : {A B : Type 0} (r : Result A Fault) (f : A → Result B Fault) (x : A) (y : Result B Fault) → r ≡ Ok x → f x ≡ y → (r >>= f) ≡ y
goes_on r f x y e g = ap (λ z. z >>= f) e ∙ g

pub room_ok : (m h i : ℕ) → m ≤ h → room_at m h i ≡ Ok (m, i)
unfolding room_at
room_ok m h i le = rw (le-ltb h m le) refl

-- a path and one name more
pub path_more : {xs : List (List ℕ)} {u : List Lexeme} (x : List ℕ) → SpellsPath xs u → SpellsPath (xs ++ x ∷ []) (u ++ key Dot ∷ name x ∷ [])
path_more x (last_name y) = then_names y (last_name x)
path_more x (then_names y s) = then_names y (path_more x s)

-- `(` goes on behind names and `isValid`
pub valid_is_called : (xs : List (List ℕ)) → 1 ≤ length xs → is_called (xs ++ valid_name ∷ []) ≡ true
valid_is_called xs some = rw (le-ltb (length (xs ++ valid_name ∷ [])) 2 (omega (arith, some, length-append xs (valid_name ∷ []))), last_of-append xs valid_name) refl

pub path_some : {xs : List (List ℕ)} {u : List Lexeme} → SpellsPath xs u → 1 ≤ length xs
path_some (last_name x) = omega arith
path_some (then_names x s) = omega arith

module _ (ws : List Lexeme) (n : ℕ) where
  pub expect_ok : (x : Key) (i : ℕ) → slice_get ws i ≡ Some (key x) → expect_at ws x i ≡ Ok (x, i + 1)
  unfolding expect_at
  expect_ok x i w = rw (w, at_key-same x) refl

  pub named_ok : (s : List ℕ) (i : ℕ) → slice_get ws i ≡ Some (name s) → named_at ws n i ≡ Ok (s, i + 1)
  unfolding named_at
  named_ok s i w = rw w refl

  pub open_ok : (b i : ℕ) → slice_get ws i ≡ Some (key Open) → 0 < b → open_at ws n b i ≡ Ok (Open, i + 1)
  unfolding open_at
  open_ok b i w lt = rw (w, le-ltb b 1 (omega (arith, lt))) refl

  pub small_ok : (v : Literal) (i : ℕ) → slice_get ws i ≡ Some (number v) → v.value ≤ 255 → small_at ws n i ≡ Ok (v.value, i + 1)
  unfolding small_at
  small_ok v i w low = rw w (rw (le-leb v.value 255 low) refl)

  -- ---- types

  bit_read : (i q : ℕ) → slice_get ws i ≡ Some (key Bit) → at_key Less (slice_get ws (i + 1)) ≡ false → i + 1 ≡ q → bits_at ws n i ≡ Ok (type.Bit 1, q)
  unfolding bits_at
  bit_read i q w no_width same = goes_on _ _ (Bit, i + 1) _ (expect_ok Bit i w) (rw no_width (ap (λ x. Ok (type.Bit 1, x)) same))

  width_read : (v : Literal) (i q : ℕ) → v.value ≤ 255 → slice_get ws i ≡ Some (key Less) → slice_get ws (i + 1) ≡ Some (number v) → slice_get ws (i + 1 + 1) ≡ Some (key More) → i + 1 + 1 + 1 ≡ q
      → width_at ws n i ≡ Ok (type.Bit v.value, q)
  unfolding width_at
  width_read v i q low less there more same =
      goes_on _ _ (Less, i + 1) _ (expect_ok Less i less) (goes_on _ _ (v.value, i + 1 + 1) _ (small_ok v (i + 1) there low)
      (goes_on _ _ (More, i + 1 + 1 + 1) _ (expect_ok More (i + 1 + 1) more) (ap (λ x. Ok (type.Bit v.value, x)) same)))

  bits_read : (v : Literal) (i q : ℕ) → v.value ≤ 255 → slice_get ws i ≡ Some (key Bit) → slice_get ws (i + 1) ≡ Some (key Less) → slice_get ws (i + 1 + 1) ≡ Some (number v) → slice_get ws (i + 1 + 1 + 1) ≡ Some (key More)
      → i + 1 + 1 + 1 + 1 ≡ q → bits_at ws n i ≡ Ok (type.Bit v.value, q)
  unfolding bits_at
  bits_read v i q low w less there more same = goes_on _ _ (Bit, i + 1) _ (expect_ok Bit i w) (rw less (width_read v (i + 1) q low less there more same))

  -- where no `<` stands behind it
  pub scalar_read : {t : PTy} {u : List Lexeme} → SpellsScalar t u → (i q : ℕ) → Stands ws i u q → at_key Less (slice_get ws q) ≡ false → scalar_at ws n i ≡ Ok (t, q)
  unfolding scalar_at truth_at
  scalar_read a_bool i q st no_less = rw st.0 (goes_on _ _ (k.Bool, i + 1) _ (expect_ok k.Bool i st.0) (ap (λ x. Ok (type.Bool, x)) st.1))
  scalar_read a_bit i q st no_less = rw st.0 (bit_read i q st.0 (ap (λ x. at_key Less (slice_get ws x)) st.1 ∙ no_less) st.1)
  scalar_read (bits v low) i q st no_less = rw st.0 (bits_read v i q low st.0 st.1.0 st.1.1.0 st.1.1.1.0 st.1.1.1.1)

  pub scalar_first : {t : PTy} {u : List Lexeme} → SpellsScalar t u → (i q : ℕ) → Stands ws i u q → is_scalar (slice_get ws i) ≡ true
  scalar_first a_bool i q st = rw st.0 refl
  scalar_first a_bit i q st = rw st.0 refl
  scalar_first (bits v low) i q st = rw st.0 refl

  -- ---- paths

  abbrev Rest : ℕ → ℕ → Read (List (List ℕ))
  Rest j i = named_at ws n i >>= λ x. more_of ws Dot (named_at ws n) j x.1 >>= λ y. Ok (x.0 ∷ y.0, y.1)

  more_none : (j q : ℕ) → 0 < j → at_key Dot (slice_get ws q) ≡ false → more_of ws Dot (named_at ws n) j q ≡ Ok ([], q)
  unfolding more_of either
  more_none zero q lt e = absurd (omega arith)
  more_none (suc j) q lt e = rw e refl

  more_suc : (j q : ℕ) → slice_get ws q ≡ Some (key Dot) → more_of ws Dot (named_at ws n) (suc j) q ≡ Rest j (q + 1)
  unfolding more_of either
  more_suc j q w = rw w refl

  more_some : (j q : ℕ) → 0 < j → slice_get ws q ≡ Some (key Dot) → more_of ws Dot (named_at ws n) j q ≡ Rest (j - 1) (q + 1)
  more_some zero q lt w = absurd (omega arith)
  more_some (suc j) q lt w = let e : suc j - 1 ≡ j = omega arith in more_suc j q w ∙ ap (λ x. Rest x (q + 1)) (sym e)

  names_rest : {xs : List (List ℕ)} {u : List Lexeme} → SpellsPath xs u → (j i q : ℕ) → Stands ws i u q → at_key Dot (slice_get ws q) ≡ false → length u ≤ j → Rest j i ≡ Ok (xs, q)
  names_rest (last_name x) j i q st no_dot le =
      let none : more_of ws Dot (named_at ws n) j (i + 1) ≡ Ok ([], i + 1) = more_none j (i + 1) (omega (arith, le)) (ap (λ y. at_key Dot (slice_get ws y)) st.1 ∙ no_dot) in
      goes_on _ _ (x, i + 1) _ (named_ok x i st.0) (goes_on _ _ ([], i + 1) _ none (ap (λ y. Ok (x ∷ [], y)) st.1))
  names_rest (then_names x {xs = xs} s) j i q st no_dot le =
      goes_on _ _ (x, i + 1) _ (named_ok x i st.0)
      (goes_on _ _ (xs, q) _ (more_some j (i + 1) (omega (arith, le)) st.1.0 ∙ names_rest s (j - 1) (i + 1 + 1) q st.1.1 no_dot (omega (arith, le))) refl)

  pub names_read : {xs : List (List ℕ)} {u : List Lexeme} → SpellsPath xs u → (i q : ℕ) → Stands ws i u q → at_key Dot (slice_get ws q) ≡ false → length u ≤ n → names_at ws n i ≡ Ok (xs, q)
  unfolding names_at more_names_at
  names_read s i q st no_dot le = names_rest s n i q st no_dot le

  pub path_first : {xs : List (List ℕ)} {u : List Lexeme} → SpellsPath xs u → (i q : ℕ) → Stands ws i u q → (x : List ℕ) × (slice_get ws i ≡ Some (name x))
  path_first (last_name x) i q st = (x, st.0)
  path_first (then_names x s) i q st = (x, st.0)

  module _ (b p : ℕ) where
    pub path_read : {xs : List (List ℕ)} {u : List Lexeme} → SpellsPath xs u → (q : ℕ) → Stands ws p u q → at_key Dot (slice_get ws q) ≡ false → (at_key Open (slice_get ws q) ≡ true → is_called xs ≡ false) → length u ≤ n
        → path_at ws n b p ≡ Ok (path p xs, q)
    unfolding path_at
    path_read {xs = xs} s q st no_dot quiet le = goes_on _ _ (xs, q) _ (names_read s p q st no_dot le) (alone (at_key Open (slice_get ws q)) (is_called xs) quiet)
      where
        alone : (x y : Bool) → (x ≡ true → y ≡ false) → cond x (cond y (call_of ws n b p (parent xs) (last_of xs) q) (Ok (path p xs, q))) (Ok (path p xs, q)) ≡ Ok (path p xs, q)
        alone false y f = refl
        alone true false f = refl
        alone true true f = absurd (let e = f refl in cc)

    -- the names xs, behind which a bracket stands at m
    called_read : {xs : List (List ℕ)} {u : List Lexeme} → SpellsPath xs u → (m : ℕ) → Stands ws p u m → slice_get ws m ≡ Some (key Open) → is_called xs ≡ true → length u ≤ n → path_at ws n b p ≡ call_of ws n b p (parent xs) (last_of xs) m
    unfolding path_at
    called_read {xs = xs} s m st w is le = goes_on _ _ (xs, m) _ (names_read s p m st (rw w refl) le) (rw (w, is) refl)

    valid_called : (xs : List (List ℕ)) (m : ℕ) → slice_get ws m ≡ Some (key Open) → slice_get ws (m + 1) ≡ Some (key Close) → 0 < b → call_of ws n b p xs (Some valid_name) m ≡ Ok (valid p xs, m + 1 + 1)
    unfolding call_of called_at validity_at
    valid_called xs m w close few = goes_on _ _ (Open, m + 1) _ (open_ok b m w few) (goes_on _ _ (Close, m + 1 + 1) _ (expect_ok Close (m + 1) close) refl)

    pub validity_read : {xs : List (List ℕ)} {u : List Lexeme} → SpellsPath xs u → (m : ℕ) → Stands ws p (u ++ key Dot ∷ name valid_name ∷ []) m → slice_get ws m ≡ Some (key Open) → slice_get ws (m + 1) ≡ Some (key Close)
        → 0 < b → length (u ++ key Dot ∷ name valid_name ∷ []) ≤ n → path_at ws n b p ≡ Ok (valid p xs, m + 1 + 1)
    validity_read {xs = xs} s m st w close few le =
        called_read (path_more valid_name s) m st w (valid_is_called xs (path_some s)) le
        ∙ ap (λ ys. call_of ws n b p ys (last_of (xs ++ valid_name ∷ [])) m) (parent-append xs valid_name)
        ∙ ap (λ o. call_of ws n b p xs o m) (last_of-append xs valid_name)
        ∙ valid_called xs m w close few

    outcome_read : (hit : Bool) (i : ℕ) → slice_get ws i ≡ Some (name (outcome_name hit)) → outcome_at ws n i ≡ Ok (hit, i + 1)
    unfolding outcome_at
    outcome_read true i w = rw w refl
    outcome_read false i w = rw w refl

    apply_called : (t : List ℕ) (hit : Bool) (m : ℕ) → slice_get ws m ≡ Some (key Open) → slice_get ws (m + 1) ≡ Some (key Close) → slice_get ws (m + 1 + 1) ≡ Some (key Dot)
        → slice_get ws (m + 1 + 1 + 1) ≡ Some (name (outcome_name hit)) → 0 < b → call_of ws n b p (t ∷ []) (Some apply_name) m ≡ Ok (applied p t hit, m + 1 + 1 + 1 + 1)
    unfolding call_of called_at applied_at application_at
    apply_called t hit m w close dot there few =
        goes_on _ _ (Open, m + 1) _ (open_ok b m w few) (goes_on _ _ (Close, m + 1 + 1) _ (expect_ok Close (m + 1) close)
        (goes_on _ _ (Dot, m + 1 + 1 + 1) _ (expect_ok Dot (m + 1 + 1) dot) (goes_on _ _ (hit, m + 1 + 1 + 1 + 1) _ (outcome_read hit (m + 1 + 1 + 1) there) refl)))

    pub application_read : (t : List ℕ) (hit : Bool) → slice_get ws p ≡ Some (name t) → slice_get ws (p + 1) ≡ Some (key Dot) → slice_get ws (p + 1 + 1) ≡ Some (name apply_name) → slice_get ws (p + 1 + 1 + 1) ≡ Some (key Open)
        → slice_get ws (p + 1 + 1 + 1 + 1) ≡ Some (key Close) → slice_get ws (p + 1 + 1 + 1 + 1 + 1) ≡ Some (key Dot) → slice_get ws (p + 1 + 1 + 1 + 1 + 1 + 1) ≡ Some (name (outcome_name hit)) → 0 < b → 3 ≤ n
        → path_at ws n b p ≡ Ok (applied p t hit, p + 1 + 1 + 1 + 1 + 1 + 1 + 1)
    application_read t hit x dot y w close dot' there few le =
        called_read (then_names t (last_name apply_name)) (p + 1 + 1 + 1) (x, (dot, (y, refl))) w refl le ∙ apply_called t hit (p + 1 + 1 + 1) w close dot' there few

  -- ---- operands

  module _ (h b p : ℕ) where
    pub number_leaf : (v : Literal) → slice_get ws p ≡ Some (number v) → 1 ≤ h → leaf_at ws n h b p ≡ Ok (num p v, p + 1)
    unfolding leaf_at numeral_at numbered_at
    number_leaf v w low = rw (w, room_ok 1 h p low) (rw w refl)

    pub true_leaf : slice_get ws p ≡ Some (key True) → 1 ≤ h → leaf_at ws n h b p ≡ Ok (flag p true, p + 1)
    unfolding leaf_at flag_at
    true_leaf w low = rw (w, room_ok 1 h p low) refl

    pub false_leaf : slice_get ws p ≡ Some (key False) → 1 ≤ h → leaf_at ws n h b p ≡ Ok (flag p false, p + 1)
    unfolding leaf_at flag_at
    false_leaf w low = rw (w, room_ok 1 h p low) refl

    error_opens : slice_get ws p ≡ Some (key Error) → 1 ≤ h → leaf_at ws n h b p ≡ error_at ws n p
    unfolding leaf_at
    error_opens w low = rw (w, room_ok 1 h p low) refl

    pub error_leaf : (x : List ℕ) → slice_get ws p ≡ Some (key Error) → slice_get ws (p + 1) ≡ Some (key Dot) → slice_get ws (p + 1 + 1) ≡ Some (name x) → 1 ≤ h → leaf_at ws n h b p ≡ Ok (error_name p x, p + 1 + 1 + 1)
    unfolding error_at
    error_leaf x w dot there low =
        error_opens w low ∙ goes_on _ _ (Error, p + 1) _ (expect_ok Error p w) (goes_on _ _ (Dot, p + 1 + 1) _ (expect_ok Dot (p + 1) dot) (goes_on _ _ (x, p + 1 + 1 + 1) _ (named_ok x (p + 1 + 1) there) refl))

    pub path_leaf : (x : List ℕ) → slice_get ws p ≡ Some (name x) → 1 ≤ h → leaf_at ws n h b p ≡ path_at ws n b p
    unfolding leaf_at
    path_leaf x w low = rw (w, room_ok 1 h p low) refl

    pub bounds_read : (high low : Literal) (a : Expr) (m : ℕ) → high.value ≤ 255 → low.value ≤ 255 → slice_get ws m ≡ Some (number high) → slice_get ws (m + 1) ≡ Some (key Colon) → slice_get ws (m + 1 + 1) ≡ Some (number low)
        → slice_get ws (m + 1 + 1 + 1) ≡ Some (key SquareClose) → bounds_at ws n p a m ≡ Ok (slice p a high.value low.value, m + 1 + 1 + 1 + 1)
    unfolding bounds_at
    bounds_read high low a m hi lo x colon y close =
        goes_on _ _ (high.value, m + 1) _ (small_ok high m x hi) (goes_on _ _ (Colon, m + 1 + 1) _ (expect_ok Colon (m + 1) colon)
        (goes_on _ _ (low.value, m + 1 + 1 + 1) _ (small_ok low (m + 1 + 1) y lo) (goes_on _ _ (SquareClose, m + 1 + 1 + 1 + 1) _ (expect_ok SquareClose (m + 1 + 1 + 1) close) refl)))

    module _ (inside below : Reader) where
      abbrev pub Operand : Read Expr
      Operand = operand_at ws n inside below h b p

      -- behind an operand without parts
      pub leaf_read : (o : Lexeme) (t : Expr) (m : ℕ) → slice_get ws p ≡ Some o → at_key Not (Some o) ≡ false → at_key Tilde (Some o) ≡ false → at_key Minus (Some o) ≡ false → at_key Open (Some o) ≡ false
          → leaf_at ws n h b p ≡ Ok (t, m) → Operand ≡ slices_at ws n h p n t m
      unfolding operand_at postfix_at
      leaf_read o t m w x y z v e = rw (w, x, y, z, v) (goes_on _ _ (t, m) _ e refl)

      negation_opens : slice_get ws p ≡ Some (key Not) → 2 ≤ h → Operand ≡ negation_at ws n below p
      unfolding operand_at
      negation_opens w low = rw (w, room_ok 2 h p low) refl

      pub negation_read : (a : Expr) (q : ℕ) → slice_get ws p ≡ Some (key Not) → below 0 (p + 1) ≡ Ok (a, q) → 2 ≤ h → Operand ≡ Ok (negation p a, q)
      unfolding negation_at
      negation_read a q w e low = negation_opens w low ∙ goes_on _ _ (Not, p + 1) _ (expect_ok Not p w) (goes_on _ _ (a, q) _ e refl)

      inversion_opens : slice_get ws p ≡ Some (key Tilde) → 2 ≤ h → Operand ≡ inversion_at ws n below p
      unfolding operand_at
      inversion_opens w low = rw (w, room_ok 2 h p low) refl

      pub inversion_read : (a : Expr) (q : ℕ) → slice_get ws p ≡ Some (key Tilde) → below 0 (p + 1) ≡ Ok (a, q) → 2 ≤ h → Operand ≡ Ok (inversion p a, q)
      unfolding inversion_at
      inversion_read a q w e low = inversion_opens w low ∙ goes_on _ _ (Tilde, p + 1) _ (expect_ok Tilde p w) (goes_on _ _ (a, q) _ e refl)

      opposite_opens : slice_get ws p ≡ Some (key Minus) → 2 ≤ h → Operand ≡ opposite_at ws n below p
      unfolding operand_at
      opposite_opens w low = rw (w, room_ok 2 h p low) refl

      pub opposite_read : (a : Expr) (q : ℕ) → slice_get ws p ≡ Some (key Minus) → below 0 (p + 1) ≡ Ok (a, q) → 2 ≤ h → Operand ≡ Ok (opposite p a, q)
      unfolding opposite_at
      opposite_read a q w e low = opposite_opens w low ∙ goes_on _ _ (Minus, p + 1) _ (expect_ok Minus p w) (goes_on _ _ (a, q) _ e refl)

      -- ---- brackets

      bracket_opens : slice_get ws p ≡ Some (key Open) → 1 ≤ h → Operand ≡ opened_at ws n inside below h b p
      unfolding operand_at
      bracket_opens w low = rw (w, room_ok 1 h p low) refl

      cast_opens : slice_get ws p ≡ Some (key Open) → 2 ≤ h → 0 < b → is_scalar (slice_get ws (p + 1)) ≡ true → Operand ≡ cast_at ws n below p (p + 1)
      unfolding opened_at
      cast_opens w low few is = bracket_opens w (omega (arith, low)) ∙ goes_on _ _ (Open, p + 1) _ (open_ok b p w few) (rw (is, room_ok 2 h (p + 1) low) refl)

      pub cast_read : (t : PTy) (u : List Lexeme) (a : Expr) (m q : ℕ) → SpellsScalar t u → Stands ws (p + 1) u m → slice_get ws p ≡ Some (key Open) → slice_get ws m ≡ Some (key Close) → below 0 (m + 1) ≡ Ok (a, q)
          → 2 ≤ h → 0 < b → Operand ≡ Ok (cast p t a, q)
      unfolding cast_at
      cast_read t u a m q s st w close e low few =
          cast_opens w low few (scalar_first s (p + 1) m st)
          ∙ goes_on _ _ (t, m) _ (scalar_read s (p + 1) m st (rw close refl)) (goes_on _ _ (Close, m + 1) _ (expect_ok Close m close) (goes_on _ _ (a, q) _ e refl))

      pub brackets_read : (a : Expr) (m : ℕ) → slice_get ws p ≡ Some (key Open) → is_scalar (slice_get ws (p + 1)) ≡ false → inside top (p + 1) ≡ Ok (a, m) → slice_get ws m ≡ Some (key Close)
          → 1 ≤ h → 0 < b → Operand ≡ slices_at ws n h p n a (m + 1)
      unfolding opened_at bracket_at
      brackets_read a m w no_type e close low few =
          bracket_opens w low ∙ goes_on _ _ (Open, p + 1) _ (open_ok b p w few) (rw no_type (goes_on _ _ (a, m) _ e (goes_on _ _ (Close, m + 1) _ (expect_ok Close m close) refl)))

  -- ---- `? :`

  module _ (below : Reader) (h p : ℕ) where
    pub conditional_ends : (a : Expr) (q : ℕ) → at_key Question (slice_get ws q) ≡ false → conditional_at ws n below h p a q ≡ Ok (a, q)
    unfolding conditional_at
    conditional_ends a q e = rw e refl

    conditional_opens : (a : Expr) (m : ℕ) → slice_get ws m ≡ Some (key Question) → expr_height a + 1 ≤ h → conditional_at ws n below h p a m ≡ branches_at ws n below p a m
    unfolding conditional_at
    conditional_opens a m w low = rw (w, room_ok (expr_height a + 1) h m low) refl

    pub conditional_read : (a c d : Expr) (m j q : ℕ) → slice_get ws m ≡ Some (key Question) → below top (m + 1) ≡ Ok (c, j) → slice_get ws j ≡ Some (key Colon) → below top (j + 1) ≡ Ok (d, q) → expr_height a + 1 ≤ h
        → conditional_at ws n below h p a m ≡ Ok (conditional p a c d, q)
    unfolding branches_at
    conditional_read a c d m j q w e colon f low =
        conditional_opens a m w low ∙ goes_on _ _ (Question, m + 1) _ (expect_ok Question m w) (goes_on _ _ (c, j) _ e (goes_on _ _ (Colon, j + 1) _ (expect_ok Colon j colon) (goes_on _ _ (d, q) _ f refl)))
