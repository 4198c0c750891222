-- Lists of reads: whether two reads are the same tree is decided, and a list that goes on has the same places.
use Rattle.std.proofs.Common.{◌≡◌, ℕ, suc, ◌<◌, List, [], ◌∷◌, ◌++◌, length, Bool, true, false, cond, ◌||◌, nat_eq, refl, sym, ap, ap₂, ◌∙◌, arith}
use Rattle.std.proofs.lemmas.Bool.{and_from, eq-eqb, eqb-true}
use Rattle.lex_text.specs.Names.{same_text}
use Rattle.lex_text.specs.declared.literal.Literal.{Literal}
use Rattle.indus_tree.specs.Tree.{Expr, Exprs, num, flag, read, count, index, member, negation, inversion, binary, cast, none, more}
use Rattle.indus_tree.specs.declared.tree.Op.{Op}
use Rattle.indus_tree.specs.declared.tree.Op.TheVariants.{Mul, Add, Sub, Shl, Shr, BitAnd, BitXor, BitOr, Less, LessEq, More, MoreEq, Equal, Differ, Both, Either}
use Rattle.own_code.proofs.Apart.{text_decides, both_left, both_right}
use Rattle.lowered_code.specs.Same.{op_code, same_literal, same_flag, same_expr, same_exprs}
use Rattle.lowered_code.specs.Expressions.{is_in, place_in}

-- ---- a tree is the same as itself

self_nat : (n : ℕ) → nat_eq n n ≡ true
self_nat n = eq-eqb n n refl

self_text : (x : List ℕ) → same_text x x ≡ true
self_text x = (text_decides x x).1 refl

self_flag : (b : Bool) → same_flag b b ≡ true
self_flag true = refl
self_flag false = refl

mutual
  pub expr_self : (e : Expr) → same_expr e e ≡ true
  expr_self (num p n) = and_from (nat_eq p p) _ (self_nat p) (and_from (nat_eq n.width n.width) (nat_eq n.value n.value) (self_nat n.width) (self_nat n.value))
  expr_self (flag p b) = and_from (nat_eq p p) _ (self_nat p) (self_flag b)
  expr_self (read p x) = and_from (nat_eq p p) _ (self_nat p) (self_text x)
  expr_self (count p x) = and_from (nat_eq p p) _ (self_nat p) (self_text x)
  expr_self (index p x ks) = and_from (nat_eq p p) _ (self_nat p) (and_from (same_text x x) _ (self_text x) (exprs_self ks))
  expr_self (member p ks x) = and_from (nat_eq p p) _ (self_nat p) (and_from (same_text x x) _ (self_text x) (exprs_self ks))
  expr_self (negation p e) = and_from (nat_eq p p) _ (self_nat p) (expr_self e)
  expr_self (inversion p e) = and_from (nat_eq p p) _ (self_nat p) (expr_self e)
  expr_self (binary p o e f) = and_from (nat_eq p p) _ (self_nat p) (and_from (nat_eq (op_code o) (op_code o)) _ (self_nat (op_code o)) (and_from (same_expr e e) _ (expr_self e) (expr_self f)))
  expr_self (cast p w e) = and_from (nat_eq p p) _ (self_nat p) (and_from (nat_eq w w) _ (self_nat w) (expr_self e))

  exprs_self : (es : Exprs) → same_exprs es es ≡ true
  exprs_self none = refl
  exprs_self (more e es) = and_from (same_expr e e) _ (expr_self e) (exprs_self es)

-- ---- and as no other

abbrev op_of : ℕ → Op
op_of n = cond (nat_eq n 0) Mul (cond (nat_eq n 1) Add (cond (nat_eq n 2) Sub (cond (nat_eq n 3) Shl (cond (nat_eq n 4) Shr (cond (nat_eq n 5) BitAnd (cond (nat_eq n 6) BitXor (cond (nat_eq n 7) BitOr (cond (nat_eq n 8) Less (cond (nat_eq n 9) LessEq (cond (nat_eq n 10) More (cond (nat_eq n 11) MoreEq (cond (nat_eq n 12) Equal (cond (nat_eq n 13) Differ (cond (nat_eq n 14) Both (Either)))))))))))))))

op_of_code : (o : Op) → op_of (op_code o) ≡ o
op_of_code Mul = refl
op_of_code Add = refl
op_of_code Sub = refl
op_of_code Shl = refl
op_of_code Shr = refl
op_of_code BitAnd = refl
op_of_code BitXor = refl
op_of_code BitOr = refl
op_of_code Less = refl
op_of_code LessEq = refl
op_of_code More = refl
op_of_code MoreEq = refl
op_of_code Equal = refl
op_of_code Differ = refl
op_of_code Both = refl
op_of_code Either = refl

op_is : (o r : Op) → nat_eq (op_code o) (op_code r) ≡ true → o ≡ r
op_is o r e = sym (op_of_code o) ∙ ap op_of (eqb-true (op_code o) (op_code r) e) ∙ op_of_code r

flag_is : (b c : Bool) → same_flag b c ≡ true → b ≡ c
flag_is true true e = refl
flag_is false false e = refl
flag_is true false e = absurd (cc)
flag_is false true e = absurd (cc)

literal_is : (n m : Literal) → same_literal n m ≡ true → n ≡ m
literal_is n m e =
    let w = eqb-true n.width m.width (both_left (nat_eq n.width m.width) (nat_eq n.value m.value) e) in
    let v = eqb-true n.value m.value (both_right (nat_eq n.width m.width) (nat_eq n.value m.value) e) in
    ap₂ (λ w v. (let l : Literal = record { width = w; value = v } in l)) w v

text_is : (x y : List ℕ) → same_text x y ≡ true → x ≡ y
text_is x y e = (text_decides x y).0 e

mutual
  pub expr_is : (e f : Expr) → same_expr e f ≡ true → e ≡ f
  expr_is (num p n) (num q m) e = ap₂ num (eqb-true p q (both_left _ _ e)) (literal_is n m (both_right (nat_eq p q) _ e))
  expr_is (flag p b) (flag q c) e = ap₂ flag (eqb-true p q (both_left _ _ e)) (flag_is b c (both_right (nat_eq p q) _ e))
  expr_is (read p x) (read q y) e = ap₂ read (eqb-true p q (both_left _ _ e)) (text_is x y (both_right (nat_eq p q) _ e))
  expr_is (count p x) (count q y) e = ap₂ count (eqb-true p q (both_left _ _ e)) (text_is x y (both_right (nat_eq p q) _ e))
  expr_is (index p x ks) (index q y ls) e =
      let r = both_right (nat_eq p q) _ e in
      ap (λ p. index p x ks) (eqb-true p q (both_left _ _ e)) ∙ ap₂ (index q) (text_is x y (both_left _ _ r)) (exprs_are ks ls (both_right (same_text x y) _ r))
  expr_is (member p ks x) (member q ls y) e =
      let r = both_right (nat_eq p q) _ e in
      ap (λ p. member p ks x) (eqb-true p q (both_left _ _ e)) ∙ ap₂ (member q) (exprs_are ks ls (both_right (same_text x y) _ r)) (text_is x y (both_left _ _ r))
  expr_is (negation p a) (negation q b) e = ap₂ negation (eqb-true p q (both_left _ _ e)) (expr_is a b (both_right (nat_eq p q) _ e))
  expr_is (inversion p a) (inversion q b) e = ap₂ inversion (eqb-true p q (both_left _ _ e)) (expr_is a b (both_right (nat_eq p q) _ e))
  expr_is (binary p o a b) (binary q r c d) e =
      let k = both_right (nat_eq p q) _ e in
      let l = both_right (nat_eq (op_code o) (op_code r)) _ k in
      ap₂ (λ p o. binary p o a b) (eqb-true p q (both_left _ _ e)) (op_is o r (both_left _ _ k))
      ∙ ap₂ (binary q r) (expr_is a c (both_left _ _ l)) (expr_is b d (both_right (same_expr a c) _ l))
  expr_is (cast p v a) (cast q w b) e =
      let k = both_right (nat_eq p q) _ e in
      ap (λ p. cast p v a) (eqb-true p q (both_left _ _ e)) ∙ ap₂ (cast q) (eqb-true v w (both_left _ _ k)) (expr_is a b (both_right (nat_eq v w) _ k))
  expr_is _ _ e = absurd (cc)

  exprs_are : (es fs : Exprs) → same_exprs es fs ≡ true → es ≡ fs
  exprs_are none none e = refl
  exprs_are (more a es) (more b fs) e = ap₂ more (expr_is a b (both_left _ _ e)) (exprs_are es fs (both_right (same_expr a b) _ e))
  exprs_are _ _ e = absurd (cc)

-- ---- lists that go on

pub in_more : (l k : List Expr) (e : Expr) → is_in l e ≡ true → is_in (l ++ k) e ≡ true
in_more [] k e i = absurd (cc)
in_more (f ∷ l) k e i = go (same_expr f e) i (in_more l k e)
  where
    go : (b : Bool) → (b || is_in l e) ≡ true → (is_in l e ≡ true → is_in (l ++ k) e ≡ true) → (b || is_in (l ++ k) e) ≡ true
    go true i j = refl
    go false i j = j i

pub place_more : (l k : List Expr) (e : Expr) → is_in l e ≡ true → place_in (l ++ k) e ≡ place_in l e
place_more [] k e i = absurd (cc)
place_more (f ∷ l) k e i = go (same_expr f e) i (place_more l k e)
  where
    go : (b : Bool) → (b || is_in l e) ≡ true → (is_in l e ≡ true → place_in (l ++ k) e ≡ place_in l e) → cond b 0 (suc (place_in (l ++ k) e)) ≡ cond b 0 (suc (place_in l e))
    go true i j = refl
    go false i j = ap suc (j i)

pub place_low : (l : List Expr) (e : Expr) → is_in l e ≡ true → place_in l e < length l
place_low [] e i = absurd (cc)
place_low (f ∷ l) e i = go (same_expr f e) i (place_low l e)
  where
    go : (b : Bool) → (b || is_in l e) ≡ true → (is_in l e ≡ true → place_in l e < length l) → cond b 0 (suc (place_in l e)) < suc (length l)
    go true i j = omega arith
    go false i j = let lt = j i in omega (arith, lt)

pub in_last : (l : List Expr) (e : Expr) → is_in (l ++ e ∷ []) e ≡ true
in_last [] e = ap (λ b. b || false) (expr_self e)
in_last (f ∷ l) e = go (same_expr f e) (in_last l e)
  where
    go : (b : Bool) → is_in (l ++ e ∷ []) e ≡ true → (b || is_in (l ++ e ∷ []) e) ≡ true
    go true i = refl
    go false i = i

pub place_last : (l : List Expr) (e : Expr) → is_in l e ≡ false → place_in (l ++ e ∷ []) e ≡ length l
place_last [] e i = ap (λ b. cond b 0 1) (expr_self e)
place_last (f ∷ l) e i = go (same_expr f e) i (place_last l e)
  where
    go : (b : Bool) → (b || is_in l e) ≡ false → (is_in l e ≡ false → place_in (l ++ e ∷ []) e ≡ length l) → cond b 0 (suc (place_in (l ++ e ∷ []) e)) ≡ suc (length l)
    go true i j = absurd (cc)
    go false i j = ap suc (j i)

-- what is in a list with one more is in the list, or is that one
pub is_last : (l : List Expr) (e f : Expr) → is_in (l ++ e ∷ []) f ≡ true → is_in l f ≡ false → e ≡ f
is_last [] e f i o = expr_is e f (or_none (same_expr e f) i)
  where
    or_none : (b : Bool) → (b || false) ≡ true → b ≡ true
    or_none true i = refl
    or_none false i = i
is_last (g ∷ l) e f i o = go (same_expr g f) i o (is_last l e f)
  where
    go : (b : Bool) → (b || is_in (l ++ e ∷ []) f) ≡ true → (b || is_in l f) ≡ false → (is_in (l ++ e ∷ []) f ≡ true → is_in l f ≡ false → e ≡ f) → e ≡ f
    go true i o j = absurd (cc)
    go false i o j = j i o
