-- The texts that are numbers are those of the grammar of both languages.
use Rattle.std.proofs.Common.{◌≡◌, ℕ, ◌^◌, ◌<◌, Bool, true, false, cond, ◌&&◌, ◌||◌, ltb, List, [], ◌∷◌, Some, None, refl, subst, ◌∙◌}
use Rattle.std.specs.Prelude.{◌==◌}
use Rattle.std.specs.List.{list_all}
use Rattle.std.proofs.lemmas.Bool.{false_from_ne_true, both_ways, eqb-true, ltb-true, lt-ltb}
use Rattle.lex_text.specs.Numbers.{is_digit_of, is_in_digits, are_digits, value_from, is_x, is_b, Unsized, decimal, hexadecimal, binary}
use Rattle.json_values.specs.Texts.{digits_of, number_of}

both_pass : (a b : Bool) → (a && b) ≡ true → (a ≡ true) × (b ≡ true)
both_pass true b e = (refl, e)
both_pass false b e = absurd cc

-- ---- a number is one of the grammar

-- what digits of a base are
record AreDigits (base : ℕ) (text : List ℕ) (value : ℕ) : Type 0 where
  pub digits : are_digits base text ≡ true
  pub is : value_from base 0 text ≡ value
  pub small : value < 2 ^ 128

digits_are : (base : ℕ) (text : List ℕ) (value : ℕ) → digits_of base text ≡ Some value → AreDigits base text value
digits_are base text value e = by (are_digits base text) refl (ltb (value_from base 0 text) (2 ^ 128)) refl e
  where
    by : (a : Bool) → are_digits base text ≡ a → (s : Bool) → ltb (value_from base 0 text) (2 ^ 128) ≡ s
        → cond a (cond s (Some (value_from base 0 text)) None) None ≡ Some value → AreDigits base text value
    by true a true s e =
        let is : value_from base 0 text ≡ value = cc in
        record { digits = a; is = is; small = subst (λ n. n < 2 ^ 128) is (ltb-true _ _ s) }
    by true a false s e = absurd cc
    by false a s t e = absurd cc

abbrev IsNumber : List ℕ → ℕ → Type 0
IsNumber text value = Unsized value text × (value < 2 ^ 128)

in_decimal : (text : List ℕ) (value : ℕ) → AreDigits 10 text value → IsNumber text value
in_decimal text value d = (subst (λ v. Unsized v text) d.is (decimal text d.digits), d.small)

pub number_is : (text : List ℕ) (value : ℕ) → number_of text ≡ Some value → IsNumber text value
number_is [] value e = absurd cc
number_is (b ∷ []) value e = in_decimal (b ∷ []) value (digits_are 10 (b ∷ []) value e)
number_is (b ∷ m ∷ ds) value e = by (b == 48) refl (is_x m) refl (is_b m) refl e
  where
    by : (z : Bool) → (b == 48) ≡ z → (x : Bool) → is_x m ≡ x → (y : Bool) → is_b m ≡ y
        → cond (z && x) (digits_of 16 ds) (cond (z && y) (digits_of 2 ds) (digits_of 10 (b ∷ m ∷ ds))) ≡ Some value → IsNumber (b ∷ m ∷ ds) value
    by true z true x y iy e =
        let d = digits_are 16 ds value e in
        let is : b ≡ 48 = eqb-true b 48 z in
        (rw is (subst (λ v. Unsized v (48 ∷ m ∷ ds)) d.is (hexadecimal m ds x d.digits)), d.small)
    by true z false x true y e =
        let d = digits_are 2 ds value e in
        let is : b ≡ 48 = eqb-true b 48 z in
        (rw is (subst (λ v. Unsized v (48 ∷ m ∷ ds)) d.is (binary m ds y d.digits)), d.small)
    by true z false x false y e = in_decimal (b ∷ m ∷ ds) value (digits_are 10 (b ∷ m ∷ ds) value e)
    by false z x ix y iy e = in_decimal (b ∷ m ∷ ds) value (digits_are 10 (b ∷ m ∷ ds) value e)

-- ---- and one of the grammar is a number

digits_give : (base : ℕ) (text : List ℕ) → are_digits base text ≡ true → value_from base 0 text < 2 ^ 128 → digits_of base text ≡ Some (value_from base 0 text)
digits_give base text a small = rw (a, lt-ltb _ _ small) refl

-- a mark is no decimal digit
one_of : (m p q : ℕ) → ((m == p) || (m == q)) ≡ true → (P : ℕ → Type 0) → P p → P q → P m
one_of m p q e P at_p at_q = by (m == p) refl (m == q) refl e
  where
    by : (a : Bool) → (m == p) ≡ a → (b : Bool) → (m == q) ≡ b → (a || b) ≡ true → P m
    by true a b ib e = rw (eqb-true m p a) at_p
    by false a true b e = rw (eqb-true m q b) at_q
    by false a false b e = absurd cc

x_no_digit : (m : ℕ) → is_in_digits 10 m ≡ true → is_x m ≡ false
x_no_digit m d = false_from_ne_true (is_x m) (λ t. both_ways (is_in_digits 10 m) (one_of m 120 88 t (λ n. is_in_digits 10 n ≡ false) refl refl) d)

b_no_digit : (m : ℕ) → is_in_digits 10 m ≡ true → is_b m ≡ false
b_no_digit m d = false_from_ne_true (is_b m) (λ t. both_ways (is_in_digits 10 m) (one_of m 98 66 t (λ n. is_in_digits 10 n ≡ false) refl refl) d)

b_no_x : (m : ℕ) → is_b m ≡ true → is_x m ≡ false
b_no_x m t = one_of m 98 66 t (λ n. is_x n ≡ false) refl refl

decimal_is : (text : List ℕ) → are_digits 10 text ≡ true → number_of text ≡ digits_of 10 text
decimal_is [] a = refl
decimal_is (b ∷ []) a = refl
decimal_is (b ∷ m ∷ ds) a =
    let behind = both_pass (is_digit_of 10 b) (list_all (is_in_digits 10) (m ∷ ds)) a in
    let second = both_pass (is_in_digits 10 m) (list_all (is_in_digits 10) ds) behind.1 in
    plain (b == 48) (rw (x_no_digit m second.0, b_no_digit m second.0) refl)
  where
    plain : (z : Bool) → number_of (b ∷ m ∷ ds) ≡ cond (z && false) (digits_of 16 ds) (cond (z && false) (digits_of 2 ds) (digits_of 10 (b ∷ m ∷ ds))) → number_of (b ∷ m ∷ ds) ≡ digits_of 10 (b ∷ m ∷ ds)
    plain true e = e
    plain false e = e

pub is_number : (text : List ℕ) (value : ℕ) → Unsized value text → value < 2 ^ 128 → number_of text ≡ Some value
is_number _ _ (decimal ds a) small = decimal_is ds a ∙ digits_give 10 ds a small
is_number _ _ (hexadecimal x ds m a) small = rw m (digits_give 16 ds a small)
is_number _ _ (binary b ds m a) small = rw (b_no_x b m, m) (digits_give 2 ds a small)
