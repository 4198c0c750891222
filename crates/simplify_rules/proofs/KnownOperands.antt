-- The rule `fold_numbers`: its answer may stand for what it is offered.
use Rattle.std.proofs.Common.{arith, ◌≡◌, ℕ, ◌+◌, ◌<◌, ◌≤◌, ◌^◌, Bool, true, false, cond, not, ◌||◌, nat_eq, nat_lt, nat_le, Some, None, refl, sym, ap, ap₂, ◌∙◌, subst, pow_pos}
use Rattle.std.proofs.lemmas.Bool.Decides.{nat_tests}
use Rattle.std.proofs.Math.Nat.{pow-le-pow_right}
use Rattle.bit_values.specs.Bits.{Word, IsWord, word, concat, cast as cast_number}
use Rattle.bit_values.specs.Laws.{HaveWidth}
use Rattle.bit_values.specs.Operators.{Class, like, shift, joined, compare, logic, left_place, right_place}
use Rattle.bit_values.specs.Widths.{bit, holds, either_width, sound_width, cast_word}
use Rattle.bit_values.proofs.BitsLemmas.{cast-lt, cast_of_small, concat-lt, operators_keep_width}
use Rattle.lex_text.specs.declared.literal.Literal.{Literal}
use Rattle.rule_tests.specs.Tests.{IsFine}
use Rattle.p4_tree.specs.Operators.{class_of, operate}
use Rattle.p4_tree.specs.Tree.{Expr, num, flag, binary}
use Rattle.p4_tree.specs.declared.statement.Op.{Op}
use Rattle.p4_tree.specs.declared.statement.Op.TheVariants.{Mul, Add, Sub, Concat, Shl, Shr, BitAnd, BitXor, BitOr, Less, LessEq, More, MoreEq, Equal, Differ, Both, Either}
use Rattle.p4_meaning.specs.Store.{Store}
use Rattle.p4_meaning.specs.Value.{value_of}
use Rattle.p4_meaning.proofs.Words.{number_word}
use Rattle.p4_printer.specs.CanSpell.{CanSpellExpr}
use Rattle.p4_scopes.specs.Kinds.{as_number, join, class_kind, width_in, joined_width}
use Rattle.p4_scopes.specs.Scopes.{Scope, own}
use Rattle.p4_scopes.specs.declared.kind.Kind.{Kind}
use Rattle.p4_scopes.specs.declared.kind.Kind.TheVariants.{Number, Truth}
use Rattle.p4_statement_rules.specs.Expressions.{bad_width, fit_tests, is_error_name, expr_tests}
use Rattle.p4_typing_laws.specs.Soundness.{IsWidth}
use Rattle.p4_typing_laws.proofs.Fine.{neither}
use Rattle.p4_typing_laws.proofs.KindWidths.{kept, twice}
use Rattle.p4_typing_laws.proofs.ValueWidths.{sound_is}
use Rattle.rewriting_laws.specs.OwnWidths.{has_own}
use Rattle.rewriting_laws.specs.Standing.{MayStandFor, StandsIfAny}
use Rattle.rewriting_laws.proofs.Closed.{broken, wide_closed}
use Rattle.rewriting_laws.proofs.Refits.{closed_join}
use Rattle.simplify_rules.specs.FoldNumbers.{right_width, takes_widths, takes_truths, made, words_folded, fold_numbers}

-- ---- words

same_widths : (v u : ℕ) → nat_eq v u ≡ true → v ≡ u
same_widths v u t = grind (arith, nat_tests, t)

sized : (v x : ℕ) → IsWidth v → x < 2 ^ v → IsWord (word v x)
sized v x i h = record { wide = i.least; narrow = i.most; in_range = h }

have_width : (v u a b : ℕ) → nat_eq v u ≡ true → a < 2 ^ v → b < 2 ^ u → HaveWidth v a b
have_width v u a b t h k = operators_keep_width v a b h (subst (λ (n : ℕ). b < 2 ^ n) (sym (same_widths v u t)) k)

joined_words : (v u a b : ℕ) → IsWidth v → IsWidth u → a < 2 ^ v → b < 2 ^ u → (t : Bool) → nat_le (v + u) 128 ≡ t → t ≡ true → IsWord (cond t (word (v + u) (concat a u b)) (word u b))
joined_words v u a b i j h k true t e =
    let most : v + u ≤ 128 = grind (arith, nat_tests, t) in
    let least : 1 ≤ v + u = (let l = i.least in omega arith) in
    record { wide = least; narrow = most; in_range = concat-lt v u a b h k }
joined_words v u a b i j h k false t e = broken (sym e)

bit_is_word : (t : Bool) → IsWord (bit t)
bit_is_word true = record { wide = omega arith; narrow = omega arith; in_range = omega arith }
bit_is_word false = record { wide = omega arith; narrow = omega arith; in_range = omega arith }

-- what an operator makes of words that it takes is a word
operated : (op : Op) (v u a b : ℕ) → IsWidth v → IsWidth u → a < 2 ^ v → b < 2 ^ u → takes_widths (class_of op) v u ≡ true → IsWord (operate op (word v a) (word u b))
operated Mul v u a b i j h k t = sized v _ i (have_width v u a b t h k).product
operated Add v u a b i j h k t = sized v _ i (have_width v u a b t h k).sum
operated Sub v u a b i j h k t = sized v _ i (have_width v u a b t h k).difference
operated Concat v u a b i j h k t = joined_words v u a b i j h k (nat_le (v + u) 128) refl t
operated Shl v u a b i j h k t = sized v _ i ((operators_keep_width v a 0 h (pow_pos v)).left b)
operated Shr v u a b i j h k t = sized v _ i ((operators_keep_width v a 0 h (pow_pos v)).right b)
operated BitAnd v u a b i j h k t = sized v _ i (have_width v u a b t h k).in_both
operated BitXor v u a b i j h k t = sized v _ i (have_width v u a b t h k).in_one
operated BitOr v u a b i j h k t = sized v _ i (have_width v u a b t h k).in_either
operated Less v u a b i j h k t = bit_is_word _
operated LessEq v u a b i j h k t = bit_is_word _
operated More v u a b i j h k t = bit_is_word _
operated MoreEq v u a b i j h k t = bit_is_word _
operated Equal v u a b i j h k t = bit_is_word _
operated Differ v u a b i j h k t = bit_is_word _
operated Both v u a b i j h k t = broken (sym t)
operated Either v u a b i j h k t = broken (sym t)

-- ---- kinds

-- the kind of what is made
abbrev kind_made : Class → Word → Kind
kind_made like w = Number w.width
kind_made shift w = Number w.width
kind_made joined w = Number w.width
kind_made compare w = Truth
kind_made logic w = Truth

like_kind : (v u : ℕ) → IsWidth v → as_number (join (Number v) (Number u)) ≡ Number v
like_kind v u i = ap as_number (closed_join (Number v) (Number u) (wide_closed v i))

no_zero : (x y z : Bool) (n : ℕ) → x ≡ false → y ≡ false → z ≡ false → cond (x || y || z) 0 n ≡ n
no_zero false false false n e f g = refl
no_zero true y z n e f g = broken e
no_zero false true z n e f g = broken f
no_zero false false true n e f g = broken g

joined_kind : (v u a b : ℕ) → IsWidth v → IsWidth u → nat_le (v + u) 128 ≡ true → joined_width v u ≡ (cond (nat_le (v + u) 128) (word (v + u) (concat a u b)) (word u b)).width
joined_kind v u a b i j t =
    let low : nat_lt 128 (v + u) ≡ false = grind (arith, nat_tests, t) in
    no_zero (nat_eq v 0) (nat_eq u 0) (nat_lt 128 (v + u)) (v + u) (wide_closed v i) (wide_closed u j) low
    ∙ sym (ap (λ (x : Bool). (cond x (word (v + u) (concat a u b)) (word u b)).width) t)

kind_is : (op : Op) (v u a b : ℕ) → IsWidth v → IsWidth (right_width (class_of op) u) → takes_widths (class_of op) v (right_width (class_of op) u) ≡ true → class_kind (class_of op) (Number v) (Number u) ≡ kind_made (class_of op) (operate op (word v a) (word (right_width (class_of op) u) b))
kind_is Mul v u a b i j t = like_kind v u i
kind_is Add v u a b i j t = like_kind v u i
kind_is Sub v u a b i j t = like_kind v u i
kind_is Concat v u a b i j t = ap Number (joined_kind v u a b i j t)
kind_is Shl v u a b i j t = refl
kind_is Shr v u a b i j t = refl
kind_is BitAnd v u a b i j t = like_kind v u i
kind_is BitXor v u a b i j t = like_kind v u i
kind_is BitOr v u a b i j t = like_kind v u i
kind_is _ v u a b i j t = refl

own_made : (s : Scope) (c : Class) (p : ℕ) (w : Word) → own s (made c p w) ≡ kind_made c w
own_made s like p w = refl
own_made s shift p w = refl
own_made s joined p w = refl
own_made s compare p w = refl
own_made s logic p w = refl

no_error_made : (c : Class) (p : ℕ) (w : Word) → is_error_name (made c p w) ≡ false
no_error_made like p w = refl
no_error_made shift p w = refl
no_error_made joined p w = refl
no_error_made compare p w = refl
no_error_made logic p w = refl

word_width : (w : Word) → IsWord w → nat_eq w.width 0 ≡ false
word_width w i = wide_closed w.width (record { least = i.wide; most = i.narrow })

number_fine : (s : Scope) (p : ℕ) (w : Word) (want : Kind) → IsWord w → IsFine (fit_tests p (Number w.width) want) → IsFine (expr_tests s want (num p (record { width = w.width; value = w.value })))
number_fine s p w want i f =
    let e = word_width w i in
    let thin : nat_lt 128 w.width ≡ false = (let most = i.narrow in grind (arith, nat_tests, most)) in
    (f, (ap (λ (t : Bool). nat_eq (cond t (width_in want) w.width) 0) e ∙ e, thin))

made_fine : (s : Scope) (c : Class) (p : ℕ) (w : Word) (want : Kind) → IsWord w → IsFine (fit_tests p (kind_made c w) want) → IsFine (expr_tests s want (made c p w))
made_fine s like p w want i f = number_fine s p w want i f
made_fine s shift p w want i f = number_fine s p w want i f
made_fine s joined p w want i f = number_fine s p w want i f
made_fine s compare p w want i f = f
made_fine s logic p w want i f = f

-- ---- spelling, and a width of its own

below : (a b c : ℕ) → a < b → b ≤ c → a < c
below a b c h k = omega arith

number_spelled : (w : Word) → IsWord w → (w.width ≤ 128) × (w.value < 2 ^ 128)
number_spelled w i = (i.narrow, below w.value (2 ^ w.width) (2 ^ 128) i.in_range (pow-le-pow_right (omega arith) i.narrow))

made_spelled : (c : Class) (p : ℕ) (w : Word) → IsWord w → CanSpellExpr (made c p w)
made_spelled like p w i = number_spelled w i
made_spelled shift p w i = number_spelled w i
made_spelled joined p w i = number_spelled w i
made_spelled compare p w i = tt
made_spelled logic p w i = tt

made_own : (c : Class) (p : ℕ) (w : Word) → IsWord w → has_own (made c p w) ≡ true
made_own like p w i = ap not (word_width w i)
made_own shift p w i = ap not (word_width w i)
made_own joined p w i = ap not (word_width w i)
made_own compare p w i = refl
made_own logic p w i = refl

-- ---- values

-- a number that is cast to the width of its place
placed : (q : ℕ) (n : Literal) (k l : ℕ) (st : Store) → IsWidth k → l ≡ k → either_width n.width k ≡ k → cast_word (sound_width l) (value_of (num q n) l st) ≡ word k (cast_number k n.value)
placed q n k l st i e f =
    let F : ℕ → ℕ → Word = λ a b. word a (cast_number a (cast_number b n.value)) in
    let start : F (sound_width l) (sound_width (either_width n.width l)) ≡ F (sound_width k) (sound_width (either_width n.width k)) = ap (λ x. F (sound_width x) (sound_width (either_width n.width x))) e in
    start
    ∙ (ap₂ F (sound_is k i) (ap sound_width f ∙ sound_is k i) ∙ ap (word k) (cast_of_small k (cast_number k n.value) (cast-lt k n.value)))

left_is : (c : Class) (v u w : ℕ) → IsWidth v → takes_widths c v (right_width c u) ≡ true → left_place c v u w ≡ v
left_is like v u w i t = ap (λ x. either_width x w) (kept v u i) ∙ kept v w i
left_is shift v u w i t = kept v w i
left_is joined v u w i t = refl
left_is compare v u w i t = kept v u i
left_is logic v u w i t = broken (sym t)

right_is : (c : Class) (v u w : ℕ) → IsWidth v → takes_widths c v (right_width c u) ≡ true → right_place c v u w ≡ right_width c u
right_is like v u w i t = ap (λ x. either_width x w) (kept v u i) ∙ (kept v w i ∙ same_widths v u t)
right_is shift v u w i t = refl
right_is joined v u w i t = refl
right_is compare v u w i t = kept v u i ∙ same_widths v u t
right_is logic v u w i t = broken (sym t)

right_kept : (c : Class) (u : ℕ) → IsWidth (right_width c u) → either_width u (right_width c u) ≡ right_width c u
right_kept like u j = kept u u j
right_kept shift u j = twice u 128
right_kept joined u j = kept u u j
right_kept compare u j = kept u u j
right_kept logic u j = kept u u j

number_back : (p : ℕ) (w : Word) (k : ℕ) (st : Store) → IsWord w → value_of (num p (record { width = w.width; value = w.value })) k st ≡ w
number_back p w k st i = number_word w.width w.value k i.wide i.narrow i.in_range

bit_back : (t : Bool) → bit (holds (bit t)) ≡ bit t
bit_back true = refl
bit_back false = refl

made_back : (op : Op) (p : ℕ) (a b : Word) (k : ℕ) (st : Store) → takes_widths (class_of op) a.width b.width ≡ true → IsWord (operate op a b) → value_of (made (class_of op) p (operate op a b)) k st ≡ operate op a b
made_back Less p a b k st t i = bit_back _
made_back LessEq p a b k st t i = bit_back _
made_back More p a b k st t i = bit_back _
made_back MoreEq p a b k st t i = bit_back _
made_back Equal p a b k st t i = bit_back _
made_back Differ p a b k st t i = bit_back _
made_back Both p a b k st t i = broken (sym t)
made_back Either p a b k st t i = broken (sym t)
made_back Mul p a b k st t i = number_back p _ k st i
made_back Add p a b k st t i = number_back p _ k st i
made_back Sub p a b k st t i = number_back p _ k st i
made_back Concat p a b k st t i = number_back p _ k st i
made_back Shl p a b k st t i = number_back p _ k st i
made_back Shr p a b k st t i = number_back p _ k st i
made_back BitAnd p a b k st t i = number_back p _ k st i
made_back BitXor p a b k st t i = number_back p _ k st i
made_back BitOr p a b k st t i = number_back p _ k st i

-- ---- two numbers

abbrev width_written : Op → Literal → ℕ
width_written op n = right_width (class_of op) n.width

abbrev number_made : Op → Literal → Literal → Word
number_made op m n = operate op (word m.width (cast_number m.width m.value)) (word (width_written op n) (cast_number (width_written op n) n.value))

pub numbers_stand : (p q r : ℕ) (op : Op) (m n : Literal) → IsWidth m.width → IsWidth (width_written op n) → takes_widths (class_of op) m.width (width_written op n) ≡ true → MayStandFor (binary p op (num q m) (num r n)) (made (class_of op) p (number_made op m n))
numbers_stand p q r op m n i j t =
    let c = class_of op in
    let w = number_made op m n in
    let is : IsWord w = operated op m.width (width_written op n) _ _ i j (cast-lt m.width m.value) (cast-lt (width_written op n) n.value) t in
    let kind : class_kind c (Number m.width) (Number n.width) ≡ kind_made c w = kind_is op m.width n.width _ _ i j t in
    record {
      spelled = λ x. made_spelled c p w is;
      own = λ h. made_own c p w is;
      typed = λ s so. record { wherever = λ want f. record { kind = own_made s c p w ∙ sym kind; named = no_error_made c p w; fine = made_fine s c p w want is (subst (λ (k : Kind). IsFine (fit_tests p k want)) kind f.0) } };
      valued = λ s so want cap f st shows k.
          (let left = placed q m m.width (left_place c m.width n.width k) st i (left_is c m.width n.width k i t) (kept m.width m.width i) in
          let right = placed r n (width_written op n) (right_place c m.width n.width k) st j (right_is c m.width n.width k i t) (right_kept c n.width j) in
          made_back op p _ _ k st t is ∙ sym (ap₂ (operate op) left right));
    }

-- ---- two truth values

truths_valued : (op : Op) (p q r : ℕ) (a b : Bool) → takes_truths op ≡ true → (k : ℕ) (st : Store) → bit (holds (operate op (bit a) (bit b))) ≡ value_of (binary p op (flag q a) (flag r b)) k st
truths_valued Equal p q r true true t k st = refl
truths_valued Equal p q r true false t k st = refl
truths_valued Equal p q r false true t k st = refl
truths_valued Equal p q r false false t k st = refl
truths_valued Differ p q r true true t k st = refl
truths_valued Differ p q r true false t k st = refl
truths_valued Differ p q r false true t k st = refl
truths_valued Differ p q r false false t k st = refl
truths_valued Both p q r true true t k st = refl
truths_valued Both p q r true false t k st = refl
truths_valued Both p q r false true t k st = refl
truths_valued Both p q r false false t k st = refl
truths_valued Either p q r true true t k st = refl
truths_valued Either p q r true false t k st = refl
truths_valued Either p q r false true t k st = refl
truths_valued Either p q r false false t k st = refl
truths_valued _ p q r a b t k st = broken (sym t)

truths_kind : (op : Op) → takes_truths op ≡ true → class_kind (class_of op) Truth Truth ≡ Truth
truths_kind Equal t = refl
truths_kind Differ t = refl
truths_kind Both t = refl
truths_kind Either t = refl
truths_kind _ t = broken (sym t)

truths_stand : (p q r : ℕ) (op : Op) (a b : Bool) → takes_truths op ≡ true → MayStandFor (binary p op (flag q a) (flag r b)) (flag p (holds (operate op (bit a) (bit b))))
truths_stand p q r op a b t =
    record {
      spelled = λ x. tt;
      own = λ h. refl;
      typed = λ s so. record { wherever = λ want f. record { kind = sym (truths_kind op t); named = refl; fine = subst (λ (k : Kind). IsFine (fit_tests p k want)) (truths_kind op t) f.0 } };
      valued = λ s so want cap f st shows k. truths_valued op p q r a b t k st;
    }

-- ---- the rule

good_width : (w : ℕ) → bad_width w ≡ false → IsWidth w
good_width w h = (let n = neither (nat_eq w 0) (nat_lt 128 w) h in let x = n.0 in let y = n.1 in record { least = grind (arith, nat_tests, x); most = grind (arith, nat_tests, y) })

numbers_folded : (p q r : ℕ) (op : Op) (m n : Literal) (x y : Bool) → bad_width m.width ≡ x → bad_width (width_written op n) ≡ y
    → StandsIfAny (binary p op (num q m) (num r n)) (words_folded op p (cond x None (Some (word m.width (cast_number m.width m.value)))) (cond y None (Some (word (width_written op n) (cast_number (width_written op n) n.value)))))
numbers_folded p q r op m n false false e f = go (takes_widths (class_of op) m.width (width_written op n)) refl
  where
    go : (t : Bool) → takes_widths (class_of op) m.width (width_written op n) ≡ t → StandsIfAny (binary p op (num q m) (num r n)) (cond t (Some (made (class_of op) p (number_made op m n))) None)
    go true t = numbers_stand p q r op m n (good_width m.width e) (good_width (width_written op n) f) t
    go false t = tt
numbers_folded p q r op m n false true e f = tt
numbers_folded p q r op m n true y e f = tt

truths_folded : (p q r : ℕ) (op : Op) (a b : Bool) (t : Bool) → takes_truths op ≡ t → StandsIfAny (binary p op (flag q a) (flag r b)) (cond t (Some (flag p (holds (operate op (bit a) (bit b))))) None)
truths_folded p q r op a b true e = truths_stand p q r op a b e
truths_folded p q r op a b false e = tt

pub fold_numbers_stands : (e : Expr) → StandsIfAny e (fold_numbers e)
fold_numbers_stands (binary p op (num q m) (num r n)) = numbers_folded p q r op m n (bad_width m.width) (bad_width (width_written op n)) refl refl
fold_numbers_stands (binary p op (flag q a) (flag r b)) = truths_folded p q r op a b (takes_truths op) refl
fold_numbers_stands _ = tt
