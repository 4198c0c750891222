-- Words of a width, and that the width of an expression's place counts only where it has none of its own.
use Rattle.std.proofs.Common.{◌≡◌, ℕ, zero, suc, ◌≤◌, ◌<◌, ◌-◌, ◌^◌, refl, sym, ap, ap₂, ◌∙◌, subst, arith, pow_pos}
use Rattle.bit_values.specs.Bits.{Word, word, IsWord, cast as cast_number}
use Rattle.bit_values.specs.Widths.{either_width, sound_width, cast_word}
use Rattle.bit_values.specs.Operators.{Class, like, shift, joined, compare, logic, class_of, operate, own_of, left_place, right_place}
use Rattle.bit_values.proofs.BitsLemmas.{cast_of_small, cast-lt}
use Rattle.p4_meaning.proofs.Words.{sound_wide, sound_narrow}
use Rattle.indus_tree.specs.Tree.{Expr, num, flag, read, count, index, member, negation, inversion, binary, cast, Shape, one, list, set, dict}
use Rattle.indus_tree.specs.State.{nothing_of, width_of, shape_width}
use Rattle.indus_tree.specs.Reads.{Seen}
use Rattle.indus_tree.specs.Shapes.{HasWidth}
use Rattle.indus_tree.specs.Operators.{operator_of}
use Rattle.indus_tree.specs.Value.{own_width, value_of}
use Rattle.lowered_code.specs.Expressions.{value_type}

-- ---- words

-- a word that is cast to the width that it has
pub cast_same : (w : ℕ) (u : Word) → u.width ≡ w → u.value < 2 ^ u.width → cast_word w u ≡ u
cast_same w u wide low = subst (λ n. cast_word n u ≡ u) wide (ap (word u.width) (cast_of_small u.width u.value low))

pub cast_kept : (w : ℕ) (u : Word) → HasWidth w u → cast_word (sound_width w) u ≡ u
cast_kept w u h = cast_same (sound_width w) u h.width (subst (λ n. u.value < 2 ^ n) (sym h.width) h.in_range)

pub cast_has : (w : ℕ) (u : Word) → HasWidth w (cast_word (sound_width w) u)
cast_has w u = record { width = refl; in_range = cast-lt (sound_width w) u.value }

pub nothing_has : (w : ℕ) → HasWidth w (nothing_of w)
nothing_has w = record { width = refl; in_range = pow_pos (sound_width w) }

pub width_is_word : (w : ℕ) (u : Word) → HasWidth w u → IsWord u
width_is_word w u h =
    record { wide = subst (λ n. 1 ≤ n) (sym h.width) (sound_wide w); narrow = subst (λ n. n ≤ 128) (sym h.width) (sound_narrow w); in_range = subst (λ n. u.value < 2 ^ n) (sym h.width) h.in_range }

-- the type of one value has the shape's width
pub value_width : (s : Shape) → width_of (value_type s) ≡ shape_width s
value_width (one t) = refl
value_width (list t n) = refl
value_width (set ks) = refl
value_width (dict ks t) = refl

-- ---- places

pub either_twice : (v w : ℕ) → either_width v (either_width v w) ≡ either_width v w
either_twice zero w = refl
either_twice (suc v) w = refl

pub either_same : (w : ℕ) → either_width w w ≡ w
either_same zero = refl
either_same (suc w) = refl

pub either_some : (v w : ℕ) → 1 ≤ v → either_width v w ≡ v
either_some zero w h = absurd (omega (arith, h))
either_some (suc v) w h = refl

left_twice : (c : Class) (v u w : ℕ) → left_place c v u (either_width (own_of c v u) w) ≡ left_place c v u w
left_twice like v u w = either_twice (either_width v u) w
left_twice shift v u w = either_twice v w
left_twice joined v u w = refl
left_twice compare v u w = refl
left_twice logic v u w = refl

right_twice : (c : Class) (v u w : ℕ) → right_place c v u (either_width (own_of c v u) w) ≡ right_place c v u w
right_twice like v u w = either_twice (either_width v u) w
right_twice shift v u w = refl
right_twice joined v u w = refl
right_twice compare v u w = refl
right_twice logic v u w = refl

-- a place's width counts only where an expression has none
pub value_at_own : (s : Seen) (e : Expr) (w : ℕ) → value_of s e (either_width (own_width s e) w) ≡ value_of s e w
value_at_own s (num p n) w = ap (λ m. word (sound_width m) (cast_number (sound_width m) n.value)) (either_twice n.width w)
value_at_own s (flag p b) w = refl
value_at_own s (read p x) w = refl
value_at_own s (count p x) w = refl
value_at_own s (index p x es) w = refl
value_at_own s (member p es x) w = refl
value_at_own s (negation p e) w = refl
value_at_own s (inversion p e) w = ap (λ (u : Word). word u.width (2 ^ u.width - 1 - u.value)) (value_at_own s e w)
value_at_own s (binary p o e f) w =
    let c = class_of (operator_of o) in
    let v = own_width s e in
    let u = own_width s f in
    ap₂ (λ m n. operate (operator_of o) (cast_word (sound_width m) (value_of s e m)) (cast_word (sound_width n) (value_of s f n))) (left_twice c v u w) (right_twice c v u w)
value_at_own s (cast p v e) w = refl

-- what has a width of its own has one value at all places
pub value_with_own : (s : Seen) (e : Expr) (v w : ℕ) → 1 ≤ own_width s e → value_of s e v ≡ value_of s e w
value_with_own s e v w some =
    sym (value_at_own s e v) ∙ ap (value_of s e) (either_some (own_width s e) v some ∙ sym (either_some (own_width s e) w some)) ∙ value_at_own s e w
