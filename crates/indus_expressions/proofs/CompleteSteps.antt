-- What is read where the parts stand: one step for each production.
use Rattle.std.proofs.Common.{◌≡◌, ℕ, zero, suc, ◌+◌, ◌-◌, ◌≤◌, ◌<◌, Bool, true, false, cond, List, [], ◌∷◌, Option, Some, Result, Ok, Err, refl, sym, ap, ◌∙◌, arith, inl, inr}
use Rattle.std.proofs.lemmas.Bool.{le-leb, eq-eqb, cases_lt}
use Rattle.std.specs.Prelude.{slice_get}
use Rattle.lex_text.specs.declared.literal.Literal.{Literal}
use Rattle.lex_words.specs.declared.key.Key.{Key}
use Rattle.lex_words.specs.declared.key.Key.TheVariants.{True, False, Bit, In, Length, Not, Tilde, Open, Close, SquareOpen, SquareClose, Less, More, Comma}
use Rattle.lex_words.specs.Seen.{Lexeme, name, number, key, at_key}
use Rattle.lex_words.specs.Reading.{Fault, wrong, Read, ◌>>=◌, either, expect_at, more_of, named_at, numbered_at}
use Rattle.lex_words.proofs.KeyCodes.{at_key-is, at_key-same}
use Rattle.indus_tree.specs.Tree.{Expr, num, flag, read, count, index, member, negation, inversion, cast, exprs_from}
use Rattle.indus_tree.specs.Height.{expr_height}
use Rattle.indus_spelling.specs.Operators.{top, IsSize}
use Rattle.indus_expressions.specs.Reading.{Reader, sized_at, rest_of, all_of, flag_at, numeral_at, index_at, variable_at, count_at, negation_at, inversion_at, cast_at, bracket_at, leaf_at, operand_at, climb, listed_at, tuple_at, group_at, layer}
use Rattle.indus_expressions.proofs.Heads.{room_ok, open_ok, climbs, bind_bind, Grouped, operand_high, operand_deep, operand_open, group_open, Head, head_other, head_opens}

-- a before what is read
abbrev pub With : Expr → Read (List Expr) → Read (List Expr)
With a r = r >>= λ y. Ok (a ∷ y.0, y.1)

abbrev list_or : Read (List Expr) → List Expr
list_or (Ok y) = y.0
list_or (Err f) = []

abbrev pub found_list : List Expr → ℕ → Read (List Expr)
found_list u i = Ok (u, i)

same_list : (u v : List Expr) (i j : ℕ) → found_list u i ≡ found_list v j → u ≡ v
same_list u v i j e = ap list_or e

same_first : (a c : Expr) (u v : List Expr) (i j : ℕ) → With a (found_list u i) ≡ found_list (c ∷ v) j → a ≡ c
same_first a c u v i j e = let f = same_list (a ∷ u) (c ∷ v) i j e in cc

same_others : (a c : Expr) (u v : List Expr) (i j : ℕ) → With a (found_list u i) ≡ found_list (c ∷ v) j → u ≡ v
same_others a c u v i j e = let f = same_list (a ∷ u) (c ∷ v) i j e in cc

pub goes_on : {A B : Type 0} (r : Result A Fault) (f : A → Result B Fault) (x : A) (y : Result B Fault) → r ≡ Ok x → f x ≡ y → (r >>= f) ≡ y
goes_on r f x y e g = ap (λ z. z >>= f) e ∙ g

module _ (ws : List Lexeme) (n : ℕ) where
  -- ---- keys, names and numbers

  pub expect_ok : (k : Key) (i : ℕ) → slice_get ws i ≡ Some (key k) → expect_at ws k i ≡ Ok (k, i + 1)
  unfolding expect_at
  expect_ok k i w = rw (w, at_key-same k) refl

  pub named_ok : (s : List ℕ) (i : ℕ) → slice_get ws i ≡ Some (name s) → named_at ws n i ≡ Ok (s, i + 1)
  unfolding named_at
  named_ok s i w = rw w refl

  pub sized_ok : (v : Literal) (i : ℕ) → slice_get ws i ≡ Some (number v) → IsSize v → sized_at ws n i ≡ Ok (v.value, i + 1)
  unfolding sized_at
  sized_ok v i w size = rw w (rw (eq-eqb v.width 0 size.plain, le-leb v.value 255 size.low) refl)

  -- ---- lists

  -- with a reader of the first and one of the others
  abbrev pub listed : (first others : Reader) → (k i : ℕ) → Read (List Expr)
  listed first others k i = first top i >>= λ x. With x.0 (more_of ws Comma (others top) k x.1)

  pub more_none : (f : Reader) (k q : ℕ) → 0 < k → at_key Comma (slice_get ws q) ≡ false → more_of ws Comma (f top) k q ≡ Ok ([], q)
  unfolding more_of either
  more_none f zero q lt e = absurd (omega arith)
  more_none f (suc k) q lt e = rw e refl

  more_suc : (f : Reader) (k q : ℕ) → slice_get ws q ≡ Some (key Comma) → more_of ws Comma (f top) (suc k) q ≡ listed f f k (q + 1)
  unfolding more_of either
  more_suc f k q w = rw w refl

  pub more_some : (f : Reader) (k q : ℕ) → 0 < k → slice_get ws q ≡ Some (key Comma) → more_of ws Comma (f top) k q ≡ listed f f (k - 1) (q + 1)
  more_some f zero q lt w = absurd (omega arith)
  more_some f (suc k) q lt w = let j : suc k - 1 ≡ k = omega arith in more_suc f k q w ∙ ap (λ x. listed f f x (q + 1)) (sym j)

  pub all_listed : (f : Reader) (i : ℕ) → all_of ws n f i ≡ listed f f n i
  unfolding all_of rest_of
  all_listed f i = refl

  -- ---- operands

  module _ (inside below : Reader) (h b p : ℕ) where
    abbrev pub Operand : Read Expr
    Operand = operand_at ws n inside below h b p

    pub number_read : (v : Literal) → slice_get ws p ≡ Some (number v) → 1 ≤ h → Operand ≡ Ok (num p v, p + 1)
    unfolding operand_at leaf_at numeral_at numbered_at
    number_read v w low = rw (w, room_ok 1 h p low) (rw w refl)

    pub true_read : slice_get ws p ≡ Some (key True) → 1 ≤ h → Operand ≡ Ok (flag p true, p + 1)
    unfolding operand_at flag_at
    true_read w low = rw (w, room_ok 1 h p low) refl

    pub false_read : slice_get ws p ≡ Some (key False) → 1 ≤ h → Operand ≡ Ok (flag p false, p + 1)
    unfolding operand_at flag_at
    false_read w low = rw (w, room_ok 1 h p low) refl

    -- a name stands there
    variable_opens : (s : List ℕ) → slice_get ws p ≡ Some (name s) → 1 ≤ h → Operand ≡ variable_at ws n below h p
    unfolding operand_at leaf_at
    variable_opens s w low = rw (w, room_ok 1 h p low) refl

    pub name_read : (s : List ℕ) → slice_get ws p ≡ Some (name s) → at_key SquareOpen (slice_get ws (p + 1)) ≡ false → 1 ≤ h → Operand ≡ Ok (read p s, p + 1)
    unfolding variable_at
    name_read s w no_square low = variable_opens s w low ∙ goes_on _ _ (s, p + 1) _ (named_ok s p w) (rw no_square refl)

    pub index_read : (s : List ℕ) (ts : List Expr) (m : ℕ) → slice_get ws p ≡ Some (name s) → slice_get ws (p + 1) ≡ Some (key SquareOpen) → all_of ws n below (p + 1 + 1) ≡ Ok (ts, m)
        → slice_get ws m ≡ Some (key SquareClose) → 2 ≤ h → Operand ≡ Ok (index p s (exprs_from ts), m + 1)
    unfolding variable_at index_at
    index_read s ts m w o all close low =
        variable_opens s w (omega (arith, low)) ∙ goes_on _ _ (s, p + 1) _ (named_ok s p w)
        (rw (o, room_ok 2 h (p + 1) low) (goes_on _ _ (SquareOpen, p + 1 + 1) _ (expect_ok SquareOpen (p + 1) o) (goes_on _ _ (ts, m) _ all (goes_on _ _ (SquareClose, m + 1) _ (expect_ok SquareClose m close) refl))))

    count_opens : slice_get ws p ≡ Some (key Length) → 1 ≤ h → Operand ≡ count_at ws n b p
    unfolding operand_at
    count_opens w low = rw (w, room_ok 1 h p low) refl

    pub count_read : (s : List ℕ) → slice_get ws p ≡ Some (key Length) → slice_get ws (p + 1) ≡ Some (key Open) → slice_get ws (p + 1 + 1) ≡ Some (name s) → slice_get ws (p + 1 + 1 + 1) ≡ Some (key Close)
        → 1 ≤ h → 1 ≤ b → Operand ≡ Ok (count p s, p + 1 + 1 + 1 + 1)
    unfolding count_at
    count_read s w o x close low few =
        count_opens w low ∙ goes_on _ _ (Length, p + 1) _ (expect_ok Length p w) (goes_on _ _ (Open, p + 1 + 1) _ (open_ok ws n b (p + 1) o few)
        (goes_on _ _ (s, p + 1 + 1 + 1) _ (named_ok s (p + 1 + 1) x) (goes_on _ _ (Close, p + 1 + 1 + 1 + 1) _ (expect_ok Close (p + 1 + 1 + 1) close) refl)))

    negation_opens : slice_get ws p ≡ Some (key Not) → 2 ≤ h → Operand ≡ negation_at ws n below p
    unfolding operand_at
    negation_opens w low = rw (w, room_ok 2 h p low) refl

    pub negation_read : (a : Expr) (q : ℕ) → slice_get ws p ≡ Some (key Not) → below 0 (p + 1) ≡ Ok (a, q) → 2 ≤ h → Operand ≡ Ok (negation p a, q)
    unfolding negation_at
    negation_read a q w e low = negation_opens w low ∙ goes_on _ _ (Not, p + 1) _ (expect_ok Not p w) (goes_on _ _ (a, q) _ e refl)

    inversion_opens : slice_get ws p ≡ Some (key Tilde) → 2 ≤ h → Operand ≡ inversion_at ws n below p
    unfolding operand_at
    inversion_opens w low = rw (w, room_ok 2 h p low) refl

    pub inversion_read : (a : Expr) (q : ℕ) → slice_get ws p ≡ Some (key Tilde) → below 0 (p + 1) ≡ Ok (a, q) → 2 ≤ h → Operand ≡ Ok (inversion p a, q)
    unfolding inversion_at
    inversion_read a q w e low = inversion_opens w low ∙ goes_on _ _ (Tilde, p + 1) _ (expect_ok Tilde p w) (goes_on _ _ (a, q) _ e refl)

    -- ---- brackets

    module _ (under : Reader) where
      pub cast_read : (v : Literal) (a : Expr) (q : ℕ) → IsSize v → slice_get ws p ≡ Some (key Open) → slice_get ws (p + 1) ≡ Some (key Bit) → slice_get ws (p + 1 + 1) ≡ Some (key Less)
          → slice_get ws (p + 1 + 1 + 1) ≡ Some (number v) → slice_get ws (p + 1 + 1 + 1 + 1) ≡ Some (key More) → slice_get ws (p + 1 + 1 + 1 + 1 + 1) ≡ Some (key Close)
          → below 0 (p + 1 + 1 + 1 + 1 + 1 + 1) ≡ Ok (a, q) → 2 ≤ h → 1 ≤ b → Operand ≡ Ok (cast p v.value a, q)
      unfolding cast_at
      cast_read v a q size w bit less number_there greater close e low few =
          operand_open ws n inside below under h b p w (omega (arith, low)) (omega (arith, few))
          ∙ rw (bit, room_ok 2 h (p + 1) low) (goes_on _ _ (Bit, p + 1 + 1) _ (expect_ok Bit (p + 1) bit) (goes_on _ _ (Less, p + 1 + 1 + 1) _ (expect_ok Less (p + 1 + 1) less)
          (goes_on _ _ (v.value, p + 1 + 1 + 1 + 1) _ (sized_ok v (p + 1 + 1 + 1) number_there size) (goes_on _ _ (More, p + 1 + 1 + 1 + 1 + 1) _ (expect_ok More (p + 1 + 1 + 1 + 1) greater)
          (goes_on _ _ (Close, p + 1 + 1 + 1 + 1 + 1 + 1) _ (expect_ok Close (p + 1 + 1 + 1 + 1 + 1) close) (goes_on _ _ (a, q) _ e refl))))))

      pub brackets_read : (a : Expr) (m : ℕ) → slice_get ws p ≡ Some (key Open) → at_key Bit (slice_get ws (p + 1)) ≡ false → inside top (p + 1) ≡ Ok (a, m) → slice_get ws m ≡ Some (key Close)
          → 1 ≤ h → 1 ≤ b → Operand ≡ Ok (a, m + 1)
      unfolding bracket_at
      brackets_read a m w no_bit e close low few =
          operand_open ws n inside below under h b p w (omega (arith, low)) (omega (arith, few)) ∙ rw no_bit (goes_on _ _ (a, m) _ e (goes_on _ _ (Close, m + 1) _ (expect_ok Close m close) refl))

      -- ---- several values in brackets

      abbrev Alone : Expr × ℕ → Read Expr
      Alone x = expect_at ws Close x.1 >>= λ r. climb ws n below h p 6 x.0 r.1

      abbrev Choice : Expr × ℕ → Read Expr
      Choice x = cond (at_key Comma (slice_get ws x.1)) (tuple_at ws n under h p x.0 x.1) (Alone x)

      module _ (s : List ℕ) (a c : Expr) (rest : List Expr) (m : ℕ) (close : slice_get ws m ≡ Some (key Close)) (is_in : slice_get ws (m + 1) ≡ Some (key In)) (named : slice_get ws (m + 1 + 1) ≡ Some (name s))
          (low : expr_height a + 1 ≤ h) (turns : 0 < n) where
        abbrev Tuple : Read Expr
        Tuple = Ok (member p (exprs_from (a ∷ c ∷ rest)) s, m + 1 + 1 + 1)

        tuple_read : (q : ℕ) → rest_of ws n under a q ≡ Ok (a ∷ c ∷ rest, m) → tuple_at ws n under h p a q ≡ Tuple
        unfolding tuple_at listed_at
        tuple_read q e =
            goes_on _ _ (expr_height a + 1, q) _ (room_ok (expr_height a + 1) h q low) (goes_on _ _ (a ∷ c ∷ rest, m) _ e (goes_on _ _ (Close, m + 1) _ (expect_ok Close m close)
            (goes_on _ _ (In, m + 1 + 1) _ (expect_ok In (m + 1) is_in) (goes_on _ _ (s, m + 1 + 1 + 1) _ (named_ok s (m + 1 + 1) named) refl))))

        abbrev Whole : Read (List Expr)
        Whole = Ok (a ∷ c ∷ rest, m)

        first_is : (x : Expr × ℕ) (r : Read (List Expr)) → With x.0 r ≡ Whole → x.0 ≡ a
        first_is x (Err f) e = absurd cc
        first_is x (Ok y) e = same_first x.0 a y.0 (c ∷ rest) y.1 m e

        no_others : (x : Expr × ℕ) → With x.0 (Ok ([], x.1)) ≡ Whole → ⊥
        no_others x e = let f = same_others x.0 a [] (c ∷ rest) x.1 m e in cc

        -- one value would be the whole list
        with_comma : (x : Expr × ℕ) (t : Bool) → t ≡ at_key Comma (slice_get ws x.1) → rest_of ws n under x.0 x.1 ≡ Ok (a ∷ c ∷ rest, m) → x.0 ≡ a → cond t (tuple_at ws n under h p x.0 x.1) (Alone x) ≡ Tuple
        unfolding rest_of
        with_comma x true t e same = ap (λ y. tuple_at ws n under h p y x.1) same ∙ tuple_read x.1 (ap (λ y. rest_of ws n under y x.1) (sym same) ∙ e)
        with_comma x false t e same =
            absurd (no_others x (sym (ap (With x.0) (more_none under n x.1 turns (sym t))) ∙ e))

        behind_first : (r : Read Expr) → (r >>= λ x. With x.0 (more_of ws Comma (under top) n x.1)) ≡ Whole → (r >>= Choice) ≡ Tuple
        unfolding rest_of
        behind_first (Err f) e = absurd cc
        behind_first (Ok x) e = with_comma x (at_key Comma (slice_get ws x.1)) refl e (first_is x (more_of ws Comma (under top) n x.1) e)

        grouped_read : listed inside under n (p + 1) ≡ Ok (a ∷ c ∷ rest, m) → Grouped ws n inside below under h b p ≡ Tuple
        grouped_read e = behind_first (inside top (p + 1)) e

        pub several_read : slice_get ws p ≡ Some (key Open) → at_key Bit (slice_get ws (p + 1)) ≡ false → listed inside under n (p + 1) ≡ Ok (a ∷ c ∷ rest, m) → 1 ≤ b → Head ws n inside below under h b p ≡ Tuple
        several_read w no_bit e few = head_opens ws n inside below under h b p w ∙ rw no_bit (group_open ws n inside below under h b p w (omega (arith, low)) (omega (arith, few)) ∙ grouped_read e)

      -- ---- the left side on level 7 is what is read on level 6

      module _ (x : Expr × ℕ) where
        abbrev Expected : Bool → ℕ → Read Key
        Expected t i = cond t (Ok (Close, i + 1)) (Err (wrong i))

        abbrev Closed : Expr × ℕ → Read Expr
        Closed y = expect_at ws Close y.1 >>= λ c. Ok (y.0, c.1)

        closes : (y : Expr × ℕ) (t : Bool) → (Expected t y.1 >>= λ r. climb ws n below h p 6 y.0 r.1) ≡ Ok x → t ≡ true
        closes y true e = refl
        closes y false e = absurd cc

        is_closed : (y : Expr × ℕ) → Alone y ≡ Ok x → at_key Close (slice_get ws y.1) ≡ true
        unfolding expect_at
        is_closed y f = closes y (at_key Close (slice_get ws y.1)) f

        no_comma : (o : Option Lexeme) → at_key Close o ≡ true → at_key Comma o ≡ false
        no_comma o e = rw (at_key-is Close o e) refl

        bracket_same : (r : Read Expr) → ((r >>= Closed) >>= λ z. climb ws n below h p 6 z.0 z.1) ≡ Ok x → (r >>= Choice) ≡ Ok x
        bracket_same (Err f) e = e
        bracket_same (Ok y) e =
            let f : Alone y ≡ Ok x = sym (bind_bind (expect_at ws Close y.1) (λ c. Ok (y.0, c.1)) (λ z. climb ws n below h p 6 z.0 z.1)) ∙ e in
            rw (no_comma (slice_get ws y.1) (is_closed y f)) f

        abbrev Six : Read Expr
        Six = layer ws n inside below under h b 6 p

        group_same : slice_get ws p ≡ Some (key Open) → at_key Bit (slice_get ws (p + 1)) ≡ false → (Operand >>= λ y. climb ws n below h p 6 y.0 y.1) ≡ Ok x → group_at ws n inside below under h b p ≡ Ok x
        unfolding bracket_at
        group_same w no_bit e = elim (cases_lt 0 h) [
          | inr z ↦ absurd (let f = operand_high ws n inside below under h b p w (omega (arith, z)) in let g = ap (λ (r : Read Expr). r >>= λ y. climb ws n below h p 6 y.0 y.1) f in cc)
          | inl lt ↦ elim (cases_lt 0 b) [
            | inr z ↦ absurd (let f = operand_deep ws n inside below under h b p w lt (omega (arith, z)) in let g = ap (λ (r : Read Expr). r >>= λ y. climb ws n below h p 6 y.0 y.1) f in cc)
            | inl lb ↦
                let f : Operand ≡ bracket_at ws n inside (p + 1) = operand_open ws n inside below under h b p w lt lb ∙ rw no_bit refl in
                group_open ws n inside below under h b p w lt lb ∙ bracket_same (inside top (p + 1)) (sym (ap (λ (r : Read Expr). r >>= λ y. climb ws n below h p 6 y.0 y.1) f) ∙ e)
          ]
        ]

        pub head_same : Six ≡ Ok x → Head ws n inside below under h b p ≡ Ok x
        head_same e = go (at_key Open (slice_get ws p)) refl
          where
            opens : slice_get ws p ≡ Some (key Open) → (t : Bool) → t ≡ at_key Bit (slice_get ws (p + 1)) → cond t Six (group_at ws n inside below under h b p) ≡ Ok x
            opens w true t = e
            opens w false t = group_same w (sym t) (sym (climbs ws n inside below under h b p) ∙ e)

            go : (t : Bool) → t ≡ at_key Open (slice_get ws p) → Head ws n inside below under h b p ≡ Ok x
            go true t = let w = at_key-is Open (slice_get ws p) (sym t) in head_opens ws n inside below under h b p w ∙ opens w (at_key Bit (slice_get ws (p + 1))) refl
            go false t = head_other ws n inside below under h b p (sym t) ∙ e
