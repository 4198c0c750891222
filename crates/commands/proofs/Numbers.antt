-- The number of a made case is what `parse` reads.
use Rattle.std.proofs.Common.{◌≡◌, ℕ, ◌<◌, ◌≤◌, ◌^◌, List, [], ◌∷◌, length, Bool, true, false, Some, None, Result, Ok, Err, refl, sym, ◌∙◌, ap, subst, arith, nat_lt, ltb-true, ltb-false}
use Rattle.std.specs.Prelude.{◌==◌, slice_index}
use Rattle.std.specs.Char.{is_digit}
use Rattle.std.specs.Result.{OkIff, result_ok}
use Rattle.std.specs.Str.Parse.{AllDigits, IsNumeral, ParsesUnsigned, digits_value, without_leading_plus}
use Rattle.commands.specs.Command.{are_digits, is_number, number_in}

all_digits : (cs : List ℕ) → are_digits cs ≡ true → AllDigits 10 cs
all_digits [] is = tt
all_digits (c ∷ cs) is = at (λ h. all_digits cs h) (is_digit c 10) refl
  where
    at : (are_digits cs ≡ true → AllDigits 10 cs) → (e : Bool) → is_digit c 10 ≡ e → AllDigits 10 (c ∷ cs)
    at rest true d = (omega (arith, ltb-true), rest (sym (rw d refl) ∙ is))
    at rest false d = let e : are_digits (c ∷ cs) ≡ false = rw d refl in absurd cc

are_all : (cs : List ℕ) → AllDigits 10 cs → are_digits cs ≡ true
are_all [] is = refl
are_all (c ∷ cs) (first, rest) = at (are_all cs rest) (is_digit c 10) refl
  where
    at : are_digits cs ≡ true → (e : Bool) → is_digit c 10 ≡ e → are_digits (c ∷ cs) ≡ true
    at left true d = rw d left
    at left false d = absurd (omega (arith, ltb-false, first))

-- what is said of a number
abbrev IsShort : List ℕ → Type 0
IsShort w = IsNumeral 10 w × (digits_value 10 w < 2 ^ 64)

module _ (c : ℕ) (cs : List ℕ) where
  abbrev w : List ℕ
  w = c ∷ cs

  said : (a b d : Bool) → nat_lt 20 (length w) ≡ a → are_digits w ≡ b → nat_lt (digits_value 10 w) 18446744073709551616 ≡ d → is_number w ≡ true → IsShort w
  said true b d p q r is = let e : is_number w ≡ false = rw p refl in absurd cc
  said false false d p q r is = let e : is_number w ≡ false = rw (p, q) refl in absurd cc
  said false true false p q r is = let e : is_number w ≡ false = rw (p, q, r) refl in absurd cc
  said false true true p q r is = ((omega arith, all_digits w q), omega (arith, ltb-true))

  says : (a d : Bool) → nat_lt 20 (length w) ≡ a → nat_lt (digits_value 10 w) 18446744073709551616 ≡ d → length w ≤ 20 → IsShort w → is_number w ≡ true
  says true d p r few short = absurd (omega (arith, ltb-true, few))
  says false false p r few short = absurd (omega (arith, ltb-false, short.1))
  says false true p r few short = rw (p, are_all w short.0.1, r) refl

is_short : (w : List ℕ) → is_number w ≡ true → IsShort w
is_short [] is = absurd cc
is_short (c ∷ cs) is = said c cs (nat_lt 20 (length (c ∷ cs))) (are_digits (c ∷ cs)) (nat_lt (digits_value 10 (c ∷ cs)) 18446744073709551616) refl refl refl is

is_said : (w : List ℕ) → length w ≤ 20 → IsShort w → is_number w ≡ true
is_said [] few ((some, all), small) = absurd (omega (arith, some))
is_said (c ∷ cs) few short = says c cs (nat_lt 20 (length (c ∷ cs))) (nat_lt (digits_value 10 (c ∷ cs)) 18446744073709551616) refl refl few short

no_plus : (w : List ℕ) → (slice_index w 0 == 43) ≡ false → without_leading_plus w ≡ w
no_plus w is = rw is refl

-- what is read of a word of at most 20 bytes that begins with no plus
pub parsed : {E : Type 0} (w : List ℕ) (r : Result ℕ E) → length w ≤ 20 → (slice_index w 0 == 43) ≡ false → ParsesUnsigned 64 10 w r → result_ok r ≡ number_in w
parsed {E} w r few not is = of r (subst (λ (ds : List ℕ). OkIff r (IsNumeral 10 ds × (digits_value 10 ds < 2 ^ 64)) (digits_value 10 ds)) (no_plus w not) is)
  where
    of : (r : Result ℕ E) → OkIff r (IsShort w) (digits_value 10 w) → result_ok r ≡ number_in w
    of (Ok x) h = rw (is_said w few h.0) (ap Some h.1)
    of (Err e) h = at (is_number w) refl
      where
        at : (b : Bool) → is_number w ≡ b → None ≡ number_in w
        at true b = absurd (h (is_short w b))
        at false b = rw b refl
