-- What the operators on numbers of 128 bits make, cut by a mask, is what the operators on words make.
use Rattle.std.proofs.Common.{◌≡◌, ◌≢◌, ℕ, ◌+◌, ◌-◌, ◌*◌, ◌%◌, ◌^◌, ◌<◌, ◌≤◌, List, Bool, true, false, not, ◌&&◌, ◌||◌, nat_eq, nat_lt, nat_le, refl, sym, ap, ◌∙◌, subst, arith, bit_and, bit_or, ⊎_elim, div-one}
use Rattle.std.proofs.Math.Nat.{pow-le-pow_right, zero-mod}
use Rattle.std.proofs.lemmas.Bool.{cases_lt}
use Rattle.std.proofs.lemmas.Bool.Decides.{nat_tests}
use Rattle.bit_values.specs.Bits.{Word, word, IsWord, shl, shr, cast}
use Rattle.bit_values.specs.Widths.{bit, cast_word}
use Rattle.bit_values.specs.Operators.{class_of, concat_words, operate}
use Rattle.bit_values.specs.declared.operator.Operator.{Operator}
use Rattle.bit_values.specs.declared.operator.Operator.TheVariants.{Mul, Add, Sub, Concat, Shl, Shr, BitAnd, BitXor, BitOr, Less, LessEq, More, MoreEq, Equal, Differ, Both, Either}
use Rattle.bit_values.proofs.BitsLemmas.{operators_keep_width, cast-lt, cast_of_small, concat-lt, shl_far, shr_far, shr-lt}
use Rattle.bit_values.proofs.WideLemmas.{low_mask, cast_wide, sub_wide, invert_wide, concat_wide}
use Rattle.p4_meaning.specs.Value.{inverted, negated, sliced}
use Rattle.slot_terms.specs.Terms.{Term, eval, combined, shifted_right, shifted_left, joined, truth_number}
use Rattle.slot_terms.specs.Typed.{Typed, Gives, mask_of}
use Rattle.slot_terms.specs.Nodes.{AreAlikeWidths, width_behind}

-- two words are the same, and in range
pub record Right (x y : Word) : Type 0 where
  pub is : x ≡ y
  pub word : IsWord x

pub powers : (v w : ℕ) → v ≤ w → 2 ^ v ≤ 2 ^ w
powers v w le = pow-le-pow_right (omega arith) le

-- a number below 2 ^ 128 that is cut by a mask
pub masked : (w n m : ℕ) → m ≡ mask_of w → w ≤ 128 → bit_and n m ≡ n % 2 ^ w
masked w n m e narrow = ap (bit_and n) e ∙ low_mask w n narrow

-- what is cut to w bits is a word
pub cut_word : (w n : ℕ) → 1 ≤ w → w ≤ 128 → IsWord (word w (n % 2 ^ w))
cut_word w n wide narrow = record { wide = wide; narrow = narrow; in_range = cast-lt w n }

-- a number that is reckoned in 128 bits, and cut by a mask
pub wide_masked : (w n m : ℕ) → m ≡ mask_of w → 1 ≤ w → w ≤ 128 → Right (word w (n % 2 ^ w)) (word w (bit_and (n % 2 ^ 128) m))
wide_masked w n m e wide narrow = record { is = ap (word w) (sym (masked w (n % 2 ^ 128) m e narrow ∙ cast_wide w n narrow)); word = cut_word w n wide narrow }

pub inverted_right : (w n m : ℕ) → m ≡ mask_of w → IsWord (word w n) → Right (inverted (word w n)) (word w (bit_and (2 ^ 128 - 1 - n) m))
inverted_right w n m e is = record {
  is = ap (word w) (sym (masked w (2 ^ 128 - 1 - n) m e is.narrow ∙ invert_wide w n is.narrow is.in_range));
  word = record { wide = is.wide; narrow = is.narrow; in_range = (operators_keep_width w n n is.in_range is.in_range).turned };
}

pub negated_right : (w n m : ℕ) → m ≡ mask_of w → IsWord (word w n) → Right (negated (word w n)) (word w (bit_and ((0 + (2 ^ 128 - n)) % 2 ^ 128) m))
negated_right w n m e is = record {
  is = ap (word w) (sym (masked w ((0 + (2 ^ 128 - n)) % 2 ^ 128) m e is.narrow ∙ sub_wide w 0 n is.narrow is.in_range));
  word = cut_word w (0 + 2 ^ w - n) is.wide is.narrow;
}

pub widened_right : (v w n : ℕ) → v ≤ w → w ≤ 128 → IsWord (word v n) → Right (cast_word w (word v n)) (word w n)
widened_right v w n le narrow is =
    let lt : n < 2 ^ w = omega (arith, is.in_range, powers v w le) in
    record {
      is = ap (word w) (cast_of_small w n lt);
      word = cut_word w n (omega (arith, is.wide)) narrow;
    }

-- bits from a place on
pub shifted_is : (n low : ℕ) → n < 2 ^ 128 → shifted_right n low ≡ shr n low
shifted_is n low lt = ⊎_elim
    (λ (h : low < 128). grind (arith, nat_tests, h))
    (λ (h : 128 ≤ low). grind (arith, nat_tests, h, shr_far 128 n low lt h))
    (cases_lt low 128)

pub shifted_left_cut : (w n k m : ℕ) → m ≡ mask_of w → 1 ≤ w → w ≤ 128 → bit_and (shifted_left n k) m ≡ shl w n k
shifted_left_cut w n k m e wide narrow = ⊎_elim
    (λ (h : k < 128).
    let t : shifted_left n k ≡ n * 2 ^ k % 2 ^ 128 = grind (arith, nat_tests, h) in
    masked w (shifted_left n k) m e narrow ∙ ap (λ x. x % 2 ^ w) t ∙ cast_wide w (n * 2 ^ k) narrow)
    (λ (h : 128 ≤ k).
    let t : shifted_left n k ≡ 0 = grind (arith, nat_tests, h) in
    masked w (shifted_left n k) m e narrow ∙ ap (λ x. x % 2 ^ w) t ∙ zero-mod (2 ^ w) ∙ sym (shl_far w n k (omega (arith, h, narrow))))
    (cases_lt k 128)

pub sliced_right : (w v n low m : ℕ) → m ≡ mask_of w → 1 ≤ w → w ≤ 128 → IsWord (word v n) → Right (sliced w low (word v n)) (word w (bit_and (shifted_right n low) m))
sliced_right w v n low m e wide narrow is =
    let lt : n < 2 ^ 128 = omega (arith, is.in_range, powers v 128 is.narrow) in
    record {
      is = ap (word w) (ap (cast w) (sym (shifted_is n low lt)) ∙ sym (masked w (shifted_right n low) m e narrow));
      word = cut_word w (shr n low) wide narrow;
    }

pub narrowed_right : (w v n m : ℕ) → m ≡ mask_of w → 1 ≤ w → w ≤ 128 → IsWord (word v n) → Right (cast_word w (word v n)) (word w (bit_and (shifted_right n 0) m))
narrowed_right w v n m e wide narrow is =
    record {
      is = ap (λ k. word w (cast w k)) (sym (div-one n)) ∙ (sliced_right w v n 0 m e wide narrow is).is;
      word = cut_word w n wide narrow;
    }

-- both joined, and where they are too many
pub joined_right : (v u x y : ℕ) → v ≤ 128 - u → 1 ≤ v → IsWord (word v x) → IsWord (word u y) → Right (concat_words (word v x) (word u y)) (word (v + u) (joined u x y))
joined_right v u x y le wide l r =
    let total : v + u ≤ 128 = omega (arith, le, r.narrow) in
    let small : u < 128 = omega (arith, total, wide) in
    let t : concat_words (word v x) (word u y) ≡ word (v + u) (x * 2 ^ u + y) = grind (arith, nat_tests, total) in
    let j : joined u x y ≡ bit_or (x * 2 ^ u % 2 ^ 128) y = grind (arith, nat_tests, small) in
    record {
      is = t ∙ ap (word (v + u)) (sym (j ∙ concat_wide v u x y total l.in_range r.in_range));
      word = rw t (record { wide = omega (arith, wide); narrow = total; in_range = concat-lt v u x y l.in_range r.in_range });
    }

pub unjoined_right : (v u x y : ℕ) → 128 - u < v → u ≤ 128 → IsWord (word u y) → Right (concat_words (word v x) (word u y)) (word u y)
unjoined_right v u x y lt narrow r =
    let wide : 128 < v + u = omega (arith, lt, narrow) in
    let t : concat_words (word v x) (word u y) ≡ word u y = grind (arith, nat_tests, wide) in
    record { is = t; word = rw t r }

-- a truth value is a word
pub bit_word : (b : Bool) → IsWord (bit b)
bit_word true = record { wide = omega arith; narrow = omega arith; in_range = omega arith }
bit_word false = record { wide = omega arith; narrow = omega arith; in_range = omega arith }

pub bit_right : (b : Bool) → Right (bit b) (word 1 (truth_number b))
bit_right b = record { is = refl; word = bit_word b }

-- each operator but the concatenation
pub operated_right :
    (op : Operator) (v u x y m : ℕ) → m ≡ mask_of v → IsWord (word v x) → IsWord (word u y) → AreAlikeWidths (class_of op) v u → op ≢ Concat
    → Right (operate op (word v x) (word u y)) (word (width_behind op v) (combined op m x y))
operated_right Mul v u x y m e l r alike other = wide_masked v (x * y) m e l.wide l.narrow
operated_right Add v u x y m e l r alike other = wide_masked v (x + y) m e l.wide l.narrow
operated_right Sub v u x y m e l r alike other =
    let fits : y < 2 ^ v = rw alike r.in_range in
    record {
      is = ap (word v) (sym (masked v ((x + (2 ^ 128 - y)) % 2 ^ 128) m e l.narrow ∙ sub_wide v x y l.narrow fits));
      word = cut_word v (x + 2 ^ v - y) l.wide l.narrow;
    }
operated_right Concat v u x y m e l r alike other = absurd (other refl)
operated_right Shl v u x y m e l r alike other =
    record { is = ap (word v) (sym (shifted_left_cut v x y m e l.wide l.narrow)); word = cut_word v (x * 2 ^ y) l.wide l.narrow }
operated_right Shr v u x y m e l r alike other =
    let lt : x < 2 ^ 128 = omega (arith, l.in_range, powers v 128 l.narrow) in
    record { is = ap (word v) (sym (shifted_is x y lt)); word = record { wide = l.wide; narrow = l.narrow; in_range = shr-lt v x y l.in_range } }
operated_right BitAnd v u x y m e l r alike other =
    let fits : y < 2 ^ v = rw alike r.in_range in
    record { is = refl; word = record { wide = l.wide; narrow = l.narrow; in_range = (operators_keep_width v x y l.in_range fits).in_both } }
operated_right BitXor v u x y m e l r alike other =
    let fits : y < 2 ^ v = rw alike r.in_range in
    record { is = refl; word = record { wide = l.wide; narrow = l.narrow; in_range = (operators_keep_width v x y l.in_range fits).in_one } }
operated_right BitOr v u x y m e l r alike other =
    let fits : y < 2 ^ v = rw alike r.in_range in
    record { is = refl; word = record { wide = l.wide; narrow = l.narrow; in_range = (operators_keep_width v x y l.in_range fits).in_either } }
operated_right Less v u x y m e l r alike other = bit_right (nat_lt x y)
operated_right LessEq v u x y m e l r alike other = bit_right (nat_le x y)
operated_right More v u x y m e l r alike other = bit_right (nat_lt y x)
operated_right MoreEq v u x y m e l r alike other = bit_right (nat_le y x)
operated_right Equal v u x y m e l r alike other = bit_right (nat_eq x y)
operated_right Differ v u x y m e l r alike other = bit_right (not (nat_eq x y))
operated_right Both v u x y m e l r alike other = bit_right (nat_eq x 1 && nat_eq y 1)
operated_right Either v u x y m e l r alike other = bit_right (nat_eq x 1 || nat_eq y 1)

-- what is right of the word that an expression gives is what an expression gives
pub given :
    (a t : Typed) {slots : List ℕ} {headers : List Bool} {x : Word} (f : Word → Word) {y : Term} → t.term ≡ y → Gives a slots headers x
    → Right (f (word a.width (eval slots headers a.term))) (word t.width (eval slots headers y)) → Gives t slots headers (f x)
given a t {slots} {headers} f e g r =
    record { is = ap f g.is ∙ r.is ∙ ap (λ u. word t.width (eval slots headers u)) (sym e); word = subst (λ y. IsWord (f y)) (sym g.is) r.word }

pub given_two :
    (a b t : Typed) {slots : List ℕ} {headers : List Bool} {x y : Word} (f : Word → Word → Word) {z : Term} → t.term ≡ z → Gives a slots headers x → Gives b slots headers y
    → Right (f (word a.width (eval slots headers a.term)) (word b.width (eval slots headers b.term))) (word t.width (eval slots headers z)) → Gives t slots headers (f x y)
given_two a b t {slots} {headers} {x} {y} f e g h r =
    record {
      is = ap (λ z. f z y) g.is ∙ ap (f (word a.width (eval slots headers a.term))) h.is ∙ r.is ∙ ap (λ u. word t.width (eval slots headers u)) (sym e);
      word = subst (λ z. IsWord (f z y)) (sym g.is) (subst (λ z. IsWord (f (word a.width (eval slots headers a.term)) z)) (sym h.is) r.word);
    }
