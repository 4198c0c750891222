-- The names of numbered scalars are apart from one another and from plain names.
use Rattle.std.proofs.Common.{◌≡◌, ℕ, zero, suc, ◌+◌, ◌<◌, ◌≤◌, ◌^◌, ◌%◌, List, [], ◌∷◌, ◌++◌, Bool, true, false, Option, Some, None, refl, sym, ap, ap₂, ◌∙◌, arith, subst, length}
use Rattle.std.specs.Fmt.{decimal}
use Rattle.std.specs.Str.Parse.{digits_value}
use Rattle.std.proofs.lemmas.Fmt.{decimal_by_steps, decimal_is_IsNumeral}
use Rattle.std.proofs.lemmas.Slice.Eq.{bytes_eq-Decides}
use Rattle.std.proofs.lemmas.Bool.{le-leb}
use Rattle.lex_text.specs.Names.{same_text}
use Rattle.lower_lists.specs.Names.{item_name, count_name, is_plain}

pub same_self : (p : List ℕ) → same_text p p ≡ true
same_self p = (bytes_eq-Decides p p).1 refl

apart_at : (p q : List ℕ) (b : Bool) → same_text p q ≡ b → (p ≡ q → ⊥) → b ≡ false
apart_at p q true e h = absurd (h ((bytes_eq-Decides p q).0 e))
apart_at p q false e h = refl

pub apart : (p q : List ℕ) → (p ≡ q → ⊥) → same_text p q ≡ false
apart p q h = apart_at p q (same_text p q) refl h

pub not_same : (p q : List ℕ) → same_text p q ≡ false → p ≡ q → ⊥
not_same p q e h = let one : true ≡ false = sym ((bytes_eq-Decides p q).1 h) ∙ e in cc

-- each byte is below the marks of numbered names
abbrev pub AllLow : List ℕ → Type 0
AllLow [] = Unit {0}
AllLow (b ∷ bs) = (48 ≤ b) × (b < 58) × AllLow bs

low-snoc : (bs : List ℕ) (b : ℕ) → AllLow bs → 48 ≤ b → b < 58 → AllLow (bs ++ b ∷ [])
low-snoc [] b h le lt = (le, lt, tt)
low-snoc (c ∷ bs) b h le lt = (h.0, h.1, low-snoc bs b h.2 le lt)

-- a number's decimal text has digits alone
pub low_digits : (n : ℕ) → n < 2 ^ 64 → AllLow (decimal n)
low_digits n lt =
    decimal_by_steps (λ k ds. AllLow ds)
    (λ k small. (omega arith, omega arith, tt))
    (λ k ds big h. low-snoc ds (48 + k % 10) h (omega arith) (omega arith))
    n lt

-- numbers with one decimal text are equal
pub decimal-inj : (n m : ℕ) → n < 2 ^ 64 → m < 2 ^ 64 → decimal n ≡ decimal m → n ≡ m
decimal-inj n m ln lm e = sym (decimal_is_IsNumeral n ln).1 ∙ ap (digits_value 10) e ∙ (decimal_is_IsNumeral m lm).1

split_at_mark : (a b r s : List ℕ) → AllLow a → AllLow b → a ++ 95 ∷ r ≡ b ++ 95 ∷ s → (a ≡ b) × (r ≡ s)
split_at_mark [] [] r s la lb e = (refl, cc)
split_at_mark [] (y ∷ b) r s la lb e = absurd (let h : 95 ≡ y = cc in omega (arith, lb.1))
split_at_mark (x ∷ a) [] r s la lb e = absurd (let h : x ≡ 95 = cc in omega (arith, la.1))
split_at_mark (x ∷ a) (y ∷ b) r s la lb e =
    let h : x ≡ y = cc in
    let t : a ++ 95 ∷ r ≡ b ++ 95 ∷ s = cc in
    let rest = split_at_mark a b r s la.2 lb.2 t in
    (ap₂ (λ c cs. c ∷ cs) h rest.0, rest.1)

wide : (n : ℕ) → n < 2 ^ 32 → n < 2 ^ 64
wide n lt = omega arith

-- ---- the scalars of a variable: its count, or the item at a place

abbrev pub slot : ℕ → Option ℕ → List ℕ
slot v None = count_name v
slot v (Some i) = item_name v i

abbrev pub IsNear : Option ℕ → Type 0
IsNear None = Unit {0}
IsNear (Some i) = i < 2 ^ 32

-- behind the mark
abbrev tail : Option ℕ → List ℕ
tail None = 99 ∷ []
tail (Some i) = decimal i

slot_is : (v : ℕ) (b : Option ℕ) → slot v b ≡ decimal v ++ 95 ∷ tail b
unfolding item_name count_name
slot_is v None = refl
slot_is v (Some i) = refl

tail-inj : (a b : Option ℕ) → IsNear a → IsNear b → tail a ≡ tail b → a ≡ b
tail-inj None None la lb e = refl
tail-inj None (Some j) la lb e = absurd (let low : AllLow (99 ∷ []) = subst AllLow (sym e) (low_digits j (wide j lb)) in omega (arith, low.1))
tail-inj (Some i) None la lb e = absurd (let low : AllLow (99 ∷ []) = subst AllLow e (low_digits i (wide i la)) in omega (arith, low.1))
tail-inj (Some i) (Some j) la lb e = ap Some (decimal-inj i j (wide i la) (wide j lb) e)

split_slots : (v u : ℕ) (a b : Option ℕ) → v < 2 ^ 32 → u < 2 ^ 32 → slot v a ≡ slot u b → (decimal v ≡ decimal u) × (tail a ≡ tail b)
split_slots v u a b lv lu e = split_at_mark (decimal v) (decimal u) (tail a) (tail b) (low_digits v (wide v lv)) (low_digits u (wide u lu)) (sym (slot_is v a) ∙ e ∙ slot_is u b)

pub slot-variable : (v u : ℕ) (a b : Option ℕ) → v < 2 ^ 32 → u < 2 ^ 32 → slot v a ≡ slot u b → v ≡ u
slot-variable v u a b lv lu e = decimal-inj v u (wide v lv) (wide u lu) (split_slots v u a b lv lu e).0

pub slot-place : (v u : ℕ) (a b : Option ℕ) → v < 2 ^ 32 → u < 2 ^ 32 → IsNear a → IsNear b → slot v a ≡ slot u b → a ≡ b
slot-place v u a b lv lu la lb e = tail-inj a b la lb (split_slots v u a b lv lu e).1

-- of different variables, or at different places
pub slots_apart : (v u : ℕ) (a b : Option ℕ) → v < 2 ^ 32 → u < 2 ^ 32 → (v ≡ u → ⊥) → same_text (slot v a) (slot u b) ≡ false
slots_apart v u a b lv lu ne = apart (slot v a) (slot u b) (λ e. ne (slot-variable v u a b lv lu e))

pub places_apart : (v : ℕ) (a b : Option ℕ) → v < 2 ^ 32 → IsNear a → IsNear b → (a ≡ b → ⊥) → same_text (slot v a) (slot v b) ≡ false
places_apart v a b lv la lb ne = apart (slot v a) (slot v b) (λ e. ne (slot-place v v a b lv lv la lb e))

-- ---- plain names

first_digit : (ds rest : List ℕ) → AllLow ds → 0 < length ds → is_plain (ds ++ rest) ≡ false
first_digit [] rest low some = absurd (omega arith)
first_digit (b ∷ ds) rest low some = grind (arith, le-leb 48 b low.0, le-leb b 57 (let lt : b < 58 = low.1 in omega arith))

pub slot_not_plain : (v : ℕ) (b : Option ℕ) → v < 2 ^ 32 → is_plain (slot v b) ≡ false
slot_not_plain v b lv = ap is_plain (slot_is v b) ∙ first_digit (decimal v) (95 ∷ tail b) (low_digits v (wide v lv)) (decimal_is_IsNumeral v (wide v lv)).0.0

pub plain_apart : (x : List ℕ) (v : ℕ) (b : Option ℕ) → v < 2 ^ 32 → is_plain x ≡ true → same_text x (slot v b) ≡ false
plain_apart x v b lv h = apart x (slot v b) (λ e. let one : true ≡ false = sym h ∙ ap is_plain e ∙ slot_not_plain v b lv in cc)

pub slot_apart : (x : List ℕ) (v : ℕ) (b : Option ℕ) → v < 2 ^ 32 → is_plain x ≡ true → same_text (slot v b) x ≡ false
slot_apart x v b lv h = apart (slot v b) x (λ e. let one : true ≡ false = sym h ∙ ap is_plain (sym e) ∙ slot_not_plain v b lv in cc)
