-- Names of different numbers are apart.
use Rattle.std.proofs.Common.{◌≡◌, codes, ℕ, ◌≤◌, ◌<◌, ◌^◌, List, [], ◌∷◌, ◌++◌, false, ◌&&◌, refl, sym, ap, ap₂, ◌∙◌, subst, arith}
use Rattle.std.specs.Char.{digit_value}
use Rattle.std.specs.Fmt.{decimal}
use Rattle.std.specs.Str.Parse.{AllDigits}
use Rattle.std.proofs.lemmas.Bool.{eq-eqb, false_from_ne_true}
use Rattle.std.proofs.lemmas.Fmt.{decimal_injective, decimal_is_IsNumeral}
use Rattle.lex_text.specs.Names.{same_text}
use Rattle.own_code.proofs.Apart.{text_decides}
use Rattle.lookup_names.specs.Names.{found_name, key_name}
use Rattle.lowered_code.specs.Names.{table_name, action_name}

-- different texts
differ_apart : (x y : List ℕ) → (x ≡ y → ⊥) → same_text x y ≡ false
differ_apart x y o = false_from_ne_true (same_text x y) (λ e. o ((text_decides x y).0 e))

decimal_apart : (n m : ℕ) → n < 2 ^ 64 → m < 2 ^ 64 → (n ≡ m → ⊥) → same_text (decimal n) (decimal m) ≡ false
decimal_apart n m ln lm o = differ_apart (decimal n) (decimal m) (λ e. o (decimal_injective n m ln lm e))

-- texts with one front
same_front : (p a b : List ℕ) → same_text (p ++ a) (p ++ b) ≡ same_text a b
same_front [] a b = refl
same_front (x ∷ p) a b = ap (λ t. t && same_text (p ++ a) (p ++ b)) (eq-eqb x x refl) ∙ same_front p a b

pub found_apart : (n m : ℕ) → n < 2 ^ 64 → m < 2 ^ 64 → (n ≡ m → ⊥) → same_text (found_name n) (found_name m) ≡ false
found_apart n m ln lm o = decimal_apart n m ln lm o

-- parts of one key
pub parts_apart : (n i j : ℕ) → i < 2 ^ 64 → j < 2 ^ 64 → (i ≡ j → ⊥) → same_text (key_name n i) (key_name n j) ≡ false
parts_apart n i j li lj o = same_front (decimal n) (codes "_" ++ decimal i) (codes "_" ++ decimal j) ∙ decimal_apart i j li lj o

-- ---- a mark behind a number, which is no digit

front_is : (mark : ℕ) → 10 ≤ digit_value mark → (a b r s : List ℕ) → AllDigits 10 a → AllDigits 10 b → a ++ mark ∷ r ≡ b ++ mark ∷ s → a ≡ b
front_is mark o [] [] r s la lb e = refl
front_is mark o [] (y ∷ b) r s la lb e =
    absurd (let h : mark ≡ y = cc in let lt : digit_value mark < 10 = subst (λ c. digit_value c < 10) (sym h) lb.0 in omega (arith, o, lt))
front_is mark o (x ∷ a) [] r s la lb e =
    absurd (let h : x ≡ mark = cc in let lt : digit_value mark < 10 = subst (λ c. digit_value c < 10) h la.0 in omega (arith, o, lt))
front_is mark o (x ∷ a) (y ∷ b) r s la lb e =
    let h : x ≡ y = cc in
    let t : a ++ mark ∷ r ≡ b ++ mark ∷ s = cc in
    ap₂ (λ c cs. c ∷ cs) h (front_is mark o a b r s la.1 lb.1 t)

marked_apart : (mark : ℕ) → 10 ≤ digit_value mark → (n m : ℕ) (r s : List ℕ) → n < 2 ^ 64 → m < 2 ^ 64 → (n ≡ m → ⊥) → same_text (decimal n ++ mark ∷ r) (decimal m ++ mark ∷ s) ≡ false
marked_apart mark o n m r s ln lm differ =
    differ_apart (decimal n ++ mark ∷ r) (decimal m ++ mark ∷ s)
    (λ e. differ (decimal_injective n m ln lm (front_is mark o (decimal n) (decimal m) r s (decimal_is_IsNumeral n ln).0.1 (decimal_is_IsNumeral m lm).0.1 e)))

-- keys of different numbers
pub keys_apart : (n m i j : ℕ) → n < 2 ^ 64 → m < 2 ^ 64 → (n ≡ m → ⊥) → same_text (key_name n i) (key_name m j) ≡ false
keys_apart n m i j ln lm differ = marked_apart 95 (omega arith) n m (decimal i) (decimal j) ln lm differ

-- tables and actions of different numbers, in whatever controls
pub tables_apart : (n m : ℕ) (c d : List ℕ) → n < 2 ^ 64 → m < 2 ^ 64 → (n ≡ m → ⊥) → same_text (table_name c n) (table_name d m) ≡ false
tables_apart n m c d ln lm differ = marked_apart 46 (omega arith) n m c d ln lm differ

pub actions_apart : (n m : ℕ) (c d : List ℕ) → n < 2 ^ 64 → m < 2 ^ 64 → (n ≡ m → ⊥) → same_text (action_name c n) (action_name d m) ≡ false
actions_apart n m c d ln lm differ = marked_apart 46 (omega arith) n m c d ln lm differ
