-- A numbered scalar has no plain name, whatever its number.
use Rattle.std.proofs.Common.{◌≡◌, ℕ, zero, suc, ◌+◌, ◌≤◌, ◌<◌, ◌/◌, ◌%◌, List, [], ◌∷◌, ◌++◌, Bool, true, false, if◌then◌else◌, sym, ap, ◌∙◌, arith, ◌==◌}
use Rattle.std.specs.Fmt.{digits, digits_onto, digit_glyph, decimal}
use Rattle.std.proofs.lemmas.Bool.{le-leb}
use Rattle.std.proofs.Math.Nat.{mod-lt}
use Rattle.lex_text.specs.Names.{same_text}
use Rattle.lower_lists.specs.Names.{item_name, count_name, is_plain}
use Rattle.flat_laws.proofs.NameLemmas.{apart}

digit_first : (d : ℕ) (rest : List ℕ) → 48 ≤ d → d < 58 → is_plain (d ∷ rest) ≡ false
digit_first d rest low high = grind (arith, le-leb 48 d low, le-leb d 57 (let lt : d < 58 = high in omega (arith, lt)))

glyph_is : (d : ℕ) → d < 10 → digit_glyph false d ≡ 48 + d
glyph_is d lt = grind (arith, le-leb (suc d) 10 (omega (arith, lt)))

glyph_first : (n : ℕ) (rest : List ℕ) → is_plain (digit_glyph false (n % 10) ∷ rest) ≡ false
glyph_first n rest =
    let lt : n % 10 < 10 = mod-lt n (omega arith) in
    ap (λ d. is_plain (d ∷ rest)) (glyph_is (n % 10) lt) ∙ digit_first (48 + n % 10) rest (omega arith) (omega (arith, lt))

digits_first :
    (k n d : ℕ) (acc rest : List ℕ) → is_plain (d ∷ acc ++ rest) ≡ false →
    is_plain (digits_onto k 10 false n (d ∷ acc) ++ rest) ≡ false
digits_first zero n d acc rest h = h
digits_first (suc k) n d acc rest h =
    go (n / 10 == 0) (digits_first k (n / 10) (digit_glyph false (n % 10)) (d ∷ acc) rest (glyph_first n (d ∷ acc ++ rest)))
  where
    go :
        (b : Bool) → is_plain (digits_onto k 10 false (n / 10) (digit_glyph false (n % 10) ∷ d ∷ acc) ++ rest) ≡ false →
        is_plain ((if b then digit_glyph false (n % 10) ∷ d ∷ acc else digits_onto k 10 false (n / 10) (digit_glyph false (n % 10) ∷ d ∷ acc)) ++ rest) ≡ false
    go true i = glyph_first n (d ∷ acc ++ rest)
    go false i = i

decimal_first : (n : ℕ) (rest : List ℕ) → is_plain (decimal n ++ rest) ≡ false
unfolding digits
decimal_first n rest = go (n / 10 == 0) (digits_first 63 (n / 10) (digit_glyph false (n % 10)) [] rest (glyph_first n rest))
  where
    go :
        (b : Bool) → is_plain (digits_onto 63 10 false (n / 10) (digit_glyph false (n % 10) ∷ []) ++ rest) ≡ false →
        is_plain ((if b then digit_glyph false (n % 10) ∷ [] else digits_onto 63 10 false (n / 10) (digit_glyph false (n % 10) ∷ [])) ++ rest) ≡ false
    go true i = glyph_first n rest
    go false i = i

pub item_first : (v i : ℕ) → is_plain (item_name v i) ≡ false
unfolding item_name
item_first v i = decimal_first v (95 ∷ decimal i)

pub count_first : (v : ℕ) → is_plain (count_name v) ≡ false
unfolding count_name
count_first v = decimal_first v (95 ∷ 99 ∷ [])

pub not_plain : (x v : List ℕ) → is_plain x ≡ false → is_plain v ≡ true → same_text x v ≡ false
not_plain x v n p = apart x v (λ e. absurd (let one : true ≡ false = sym p ∙ ap is_plain (sym e) ∙ n in cc))
