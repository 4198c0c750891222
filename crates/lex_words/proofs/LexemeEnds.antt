-- Where names, numbers and marks end.
use Rattle.std.proofs.Common.{◌≡◌, ℕ, Bool, true, false, not, List, [], ◌∷◌, ◌++◌, length, ◌≤◌, ◌&&◌, Option, refl, sym, ap, subst, ◌∙◌, arith, inl, inr}
use Rattle.std.specs.List.{list_all}
use Rattle.std.specs.Cmp.Lexicographic.{same_text as texts_same}
use Rattle.std.proofs.lemmas.Bool.{and_parts, and_from, or_cases}
use Rattle.std.proofs.lemmas.Bool.Decides.{nat_tests}
use Rattle.std.proofs.lemmas.List.Folds.{list_all-append}
use Rattle.lex_text.specs.Names.{same_text}
use Rattle.lex_text.specs.NameToken.{is_name_byte, is_digit}
use Rattle.lex_text.specs.Numbers.{is_digit_of, is_in_digits, are_digits, are_plain, is_x, is_b, Unsized, decimal, hexadecimal, binary, Number, without_width, with_width}
use Rattle.lex_text.specs.Marks.{double_marks, triple_marks, is_one_of}
use Rattle.lex_text.specs.Tokens.{Longest, IsName, IsMark, IsNumber, some_number}
use Rattle.lex_text.specs.declared.token.Words.{Words}
use Rattle.lex_text.proofs.Fronts.{within_prefix}
use Rattle.lex_text.proofs.NameFronts.{name_bytes}
use Rattle.lex_text.proofs.TextFronts.{prefix_len-stop}
use Rattle.lex_words.specs.Written.{is_joined, first_byte}

pub false_from_not : (b : Bool) → not b ≡ true → b ≡ false
false_from_not true e = absurd (let x : false ≡ true = e in cc)
false_from_not false e = refl

pub list_all-more : (p q : ℕ → Bool) → ((b : ℕ) → p b ≡ true → q b ≡ true) → (u : List ℕ) → list_all p u ≡ true → list_all q u ≡ true
list_all-more p q f [] a = refl
list_all-more p q f (b ∷ u) a =
    let h = and_parts (p b) (list_all p u) a in
    and_from (q b) (list_all q u) (f b h.0) (list_all-more p q f u h.1)

-- ---- numbers

digit_name : (b : ℕ) → is_digit b ≡ true → is_name_byte b ≡ true
digit_name b e = grind (arith, nat_tests)

two_name : (b : ℕ) → is_in_digits 2 b ≡ true → is_name_byte b ≡ true
two_name b e = grind (arith, nat_tests)

ten_name : (b : ℕ) → is_in_digits 10 b ≡ true → is_name_byte b ≡ true
ten_name b e = grind (arith, nat_tests)

sixteen_name : (b : ℕ) → is_in_digits 16 b ≡ true → is_name_byte b ≡ true
sixteen_name b e = grind (arith, nat_tests)

x_name : (b : ℕ) → is_x b ≡ true → is_name_byte b ≡ true
x_name b e = grind (arith, nat_tests)

b_name : (b : ℕ) → is_b b ≡ true → is_name_byte b ≡ true
b_name b e = grind (arith, nat_tests)

digits_name : (base : ℕ) → ((b : ℕ) → is_in_digits base b ≡ true → is_name_byte b ≡ true) → (ds : List ℕ) → are_digits base ds ≡ true → list_all is_name_byte ds ≡ true
digits_name base f [] a = refl
digits_name base f (d ∷ ds) a =
    let h = and_parts (is_digit_of base d) (list_all (is_in_digits base) ds) a in
    let first : is_in_digits base d ≡ true = rw h.0 refl in
    and_from (is_name_byte d) _ (f d first) (list_all-more (is_in_digits base) is_name_byte f ds h.1)

plain_name : (ws : List ℕ) → are_plain ws ≡ true → list_all is_name_byte ws ≡ true
plain_name [] a = refl
plain_name (d ∷ ds) a = list_all-more is_digit is_name_byte digit_name (d ∷ ds) a

unsized_name : {value : ℕ} {u : List ℕ} → Unsized value u → list_all is_name_byte u ≡ true
unsized_name (decimal ds a) = digits_name 10 ten_name ds a
unsized_name (hexadecimal x ds e a) = and_from (is_name_byte x) (list_all is_name_byte ds) (x_name x e) (digits_name 16 sixteen_name ds a)
unsized_name (binary b ds e a) = and_from (is_name_byte b) (list_all is_name_byte ds) (b_name b e) (digits_name 2 two_name ds a)

-- all bytes of a number are bytes of names
pub number_name : {width : Option ℕ} {value : ℕ} {u : List ℕ} → Number width value u → list_all is_name_byte u ≡ true
number_name (without_width x) = unsized_name x
number_name (with_width {u = u} ws a x) = list_all-append is_name_byte ws (119 ∷ u) ∙ and_from (list_all is_name_byte ws) (list_all is_name_byte u) (plain_name ws a) (unsized_name x)

-- ---- marks

-- what all marks of a list are, each of them is
pub one_of_all : (p : ℕ → Bool) (ms : List (List ℕ)) (u : List ℕ) → list_all (list_all p) ms ≡ true → is_one_of ms u ≡ true → list_all p u ≡ true
one_of_all p [] u a e = absurd (let x : false ≡ true = e in cc)
one_of_all p (m ∷ ms) u a e =
    let h = and_parts (list_all p m) (list_all (list_all p) ms) a in
    elim (or_cases (same_text u m) (is_one_of ms u) e) [ inl f ↦ ap (list_all p) (texts_same u m (sym f)) ∙ h.0 | inr f ↦ one_of_all p ms u h.1 f ]

pub joined-double : (a b : ℕ) → is_one_of double_marks (a ∷ b ∷ []) ≡ true → (is_joined a && is_joined b) ≡ true
joined-double a b m = pair (one_of_all is_joined double_marks (a ∷ b ∷ []) refl m)
  where
    pair : (is_joined a && (is_joined b && true)) ≡ true → (is_joined a && is_joined b) ≡ true
    pair e = let h = and_parts (is_joined a) _ e in let k = and_parts (is_joined b) true h.1 in and_from (is_joined a) (is_joined b) h.0 k.0

pub joined-triple : (a b c : ℕ) → is_one_of triple_marks (a ∷ b ∷ c ∷ []) ≡ true → ((is_joined a && is_joined b) ≡ true) × ((is_joined a && is_joined c) ≡ true)
joined-triple a b c m =
    let all = one_of_all is_joined triple_marks (a ∷ b ∷ c ∷ []) refl m in
    let h = and_parts (is_joined a) (is_joined b && (is_joined c && true)) all in
    let k = and_parts (is_joined b) (is_joined c && true) h.1 in
    let l = and_parts (is_joined c) true k.1 in
    (and_from (is_joined a) (is_joined b) h.0 k.0, and_from (is_joined a) (is_joined c) h.0 l.0)

-- ---- where they end

-- where all bytes of such fronts are of a kind, a byte of no such kind behind one ends the longest
longest_before : (q : ℕ → Bool) (P : List ℕ → Type 0) (u : List ℕ) (b : ℕ) (rest : List ℕ) → P u → ((v : List ℕ) → P v → list_all q v ≡ true) → q b ≡ false → Longest P u (b ∷ rest)
longest_before q P u b rest p all e = record {
  is = p;
  longest = λ v back z same.
      let w = within_prefix q (u ++ b ∷ rest) v back (all v z) same in
      let n = prefix_len-stop q u b rest (all u p) e in
      omega (arith, w, n);
}

pub longest_name : (u : List ℕ) (b : ℕ) (rest : List ℕ) → IsName u → is_name_byte b ≡ false → Longest IsName u (b ∷ rest)
longest_name u b rest n e = longest_before is_name_byte IsName u b rest n name_bytes e

bytes_of_number : (u : List ℕ) → IsNumber u → list_all is_name_byte u ≡ true
bytes_of_number u (some_number width value x) = number_name x

pub longest_number : (u : List ℕ) (b : ℕ) (rest : List ℕ) → IsNumber u → is_name_byte b ≡ false → Longest IsNumber u (b ∷ rest)
longest_number u b rest n e = longest_before is_name_byte IsNumber u b rest n bytes_of_number e

-- a mark behind which a longer one could go on has only bytes of longer marks
pub longest_mark : (w : Words) (u : List ℕ) (b : ℕ) (rest : List ℕ) → IsMark w u → (is_joined (first_byte u) && is_joined b) ≡ false → Longest (IsMark w) u (b ∷ rest)
longest_mark w u b rest m e = record { is = m; longest = λ v back i same. go u m e v back i same }
  where
    go : (u : List ℕ) → IsMark w u → (is_joined (first_byte u) && is_joined b) ≡ false → (v back : List ℕ) → IsMark w v → v ++ back ≡ u ++ b ∷ rest → length v ≤ length u
    go [] m e v back i same = absurd (let x : false ≡ true = m in cc)
    go (a ∷ u) m e [] back i same = omega arith
    go (a ∷ u) m e (c ∷ []) back i same = omega arith
    go (a ∷ []) m e (c ∷ d ∷ []) back i same =
        let first : c ≡ a = cc in
        let second : d ≡ b = cc in
        let j : (is_joined a && is_joined b) ≡ true = subst (λ z. (is_joined z && is_joined b) ≡ true) first (subst (λ z. (is_joined c && is_joined z) ≡ true) second (joined-double c d i)) in
        absurd (let x : false ≡ true = sym e ∙ j in cc)
    go (a ∷ []) m e (c ∷ d ∷ f ∷ []) back i same =
        let first : c ≡ a = cc in
        let second : d ≡ b = cc in
        let j : (is_joined a && is_joined b) ≡ true = subst (λ z. (is_joined z && is_joined b) ≡ true) first (subst (λ z. (is_joined c && is_joined z) ≡ true) second (joined-triple c d f i).0) in
        absurd (let x : false ≡ true = sym e ∙ j in cc)
    go (a ∷ g ∷ []) m e (c ∷ d ∷ []) back i same = omega arith
    go (a ∷ g ∷ []) m e (c ∷ d ∷ f ∷ []) back i same =
        let first : c ≡ a = cc in
        let third : f ≡ b = cc in
        let j : (is_joined a && is_joined b) ≡ true = subst (λ z. (is_joined z && is_joined b) ≡ true) first (subst (λ z. (is_joined c && is_joined z) ≡ true) third (joined-triple c d f i).1) in
        absurd (let x : false ≡ true = sym e ∙ j in cc)
    go (a ∷ g ∷ h ∷ u) m e (c ∷ d ∷ []) back i same = omega arith
    go (a ∷ g ∷ h ∷ u) m e (c ∷ d ∷ f ∷ []) back i same = omega arith
    go (a ∷ u) m e (c ∷ d ∷ f ∷ k ∷ v) back i same = absurd (let x : false ≡ true = i in cc)
