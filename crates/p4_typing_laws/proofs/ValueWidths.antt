-- The value of an expression that breaks no rule is a word of its static width, in range: an operator casts its operands
-- to the width of their place, a number takes that of its place, and what is read has a declared width.
use Rattle.std.proofs.Common.{◌≡◌, ℕ, ◌+◌, ◌-◌, ◌^◌, ◌<◌, ◌≤◌, Bool, true, false, cond, min, refl, sym, ap, ◌∙◌, subst, pow_pos, arith}
use Rattle.std.specs.Prelude.{nat_le}
use Rattle.std.proofs.lemmas.Bool.{le-leb}
use Rattle.std.proofs.Math.Nat.{mod-lt, min-eq_right}
use Rattle.rule_tests.specs.Tests.{IsFine}
use Rattle.bit_values.specs.Bits.{Word, word, concat, cast as cast_number}
use Rattle.bit_values.specs.Widths.{bit, holds, either_width, sound_width, cast_word}
use Rattle.bit_values.specs.Operators.{own_of, left_place, right_place, concat_words}
use Rattle.bit_values.proofs.BitsLemmas.{operators_keep_width, concat-lt}
use Rattle.p4_tree.specs.Tree.{Expr, num, flag, path, valid, applied, error_name, negation, inversion, opposite, binary, conditional, slice, cast}
use Rattle.p4_tree.specs.Operators.{class_of, operate}
use Rattle.p4_tree.specs.declared.statement.Op.{Op}
use Rattle.p4_tree.specs.declared.statement.Op.TheVariants.{Mul, Add, Sub, Concat, Shl, Shr, BitAnd, BitXor, BitOr, Less, LessEq, More, MoreEq, Equal, Differ, Both, Either}
use Rattle.p4_meaning.specs.Store.{Store, read}
use Rattle.p4_meaning.specs.Value.{width_of, own_width, error_of, inverted, negated, value_of}
use Rattle.p4_meaning.specs.Laws.{IsOf}
use Rattle.p4_meaning.proofs.Words.{sound, sound_wide, sound_narrow, cast_is_word}
use Rattle.p4_scopes.specs.Scopes.{Scope, own}
use Rattle.p4_scopes.specs.Uses.{reads}
use Rattle.p4_scopes.specs.declared.kind.Kind.{Kind}
use Rattle.p4_statement_rules.specs.Expressions.{expr_tests}
use Rattle.p4_typing_laws.specs.Soundness.{kind_width, IsWidth}
use Rattle.p4_typing_laws.specs.Widths.{static_width, Shows, Serves, HasStaticWidth}
use Rattle.p4_typing_laws.proofs.Fine.{twice_not}
use Rattle.p4_typing_laws.proofs.KindWidths.{kept}
use Rattle.p4_typing_laws.proofs.StaticWidths.{ReadsSound, left_most, right_most, static_sound, found, shown_sound, Fit, operands_fit, cast_found, cast_wide}

-- a width that can be one is not cut
pub sound_is : (w : ℕ) → IsWidth w → sound_width w ≡ w
sound_is w is = sound w is.least is.most

-- a width that is cut is not cut again, whatever the place gives
cut_twice : (n w : ℕ) → sound_width (either_width (sound_width n) w) ≡ sound_width n
cut_twice n w =
    let is : IsWidth (sound_width n) = record { least = sound_wide n; most = sound_narrow n } in
    ap sound_width (kept (sound_width n) w is) ∙ sound_is (sound_width n) is

-- ---- words

-- a truth value
bit_word : (b : Bool) → IsOf 1 (bit b)
bit_word true = record { word = record { wide = omega arith; narrow = omega arith; in_range = omega arith }; width = refl }
bit_word false = record { word = record { wide = omega arith; narrow = omega arith; in_range = omega arith }; width = refl }

cast_of : (n : ℕ) (v : Word) → IsOf (sound_width n) (cast_word (sound_width n) v)
cast_of n v = record { word = cast_is_word n v; width = refl }

-- a number below 2 ^ n, of the sound width n
word_of : (n v : ℕ) → v < 2 ^ sound_width n → IsOf (sound_width n) (word (sound_width n) v)
word_of n v h = record { word = record { wide = sound_wide n; narrow = sound_narrow n; in_range = h }; width = refl }

cast_low : (n v : ℕ) → cast_number n v < 2 ^ n
cast_low n v = mod-lt v (pow_pos n)

error_word : (n : ℕ) → n < 4 → IsOf 2 (word 2 n)
error_word n h = record { word = record { wide = omega arith; narrow = omega arith; in_range = omega arith }; width = refl }

error_low : (a b c : Bool) → cond a 0 (cond b 1 (cond c 2 3)) < 4
error_low true b c = omega arith
error_low false true c = omega arith
error_low false false true = omega arith
error_low false false false = omega arith

inverted_word : (n : ℕ) (v : Word) → IsOf (sound_width n) (inverted (cast_word (sound_width n) v))
inverted_word n v = word_of n _ (operators_keep_width (sound_width n) (cast_number (sound_width n) v.value) (cast_number (sound_width n) v.value) (cast_low (sound_width n) v.value) (cast_low (sound_width n) v.value)).turned

negated_word : (n : ℕ) (v : Word) → IsOf (sound_width n) (negated (cast_word (sound_width n) v))
negated_word n v = word_of n _ (operators_keep_width (sound_width n) 0 (cast_number (sound_width n) v.value) (pow_pos (sound_width n)) (cast_low (sound_width n) v.value)).difference

-- ---- operators

concat_step : (v u : ℕ) (a b : Word) (t : Bool) → nat_le (v + u) 128 ≡ t → IsWidth v → IsWidth u → v + u ≤ 128 → a.value < 2 ^ v → b.value < 2 ^ u → IsOf (v + u) (cond t (word (v + u) (concat a.value u b.value)) b)
concat_step v u a b true e i j m h k = record { word = record { wide = (let one = i.least in omega arith); narrow = m; in_range = concat-lt v u a.value b.value h k }; width = refl }
concat_step v u a b false e i j m h k = absurd (let c : true ≡ false = sym (le-leb (v + u) 128 m) ∙ e in cc)

concat_word : (v u : ℕ) (a b : Word) → IsWidth v → IsWidth u → v + u ≤ 128 → IsOf (v + u) (concat_words (cast_word v a) (cast_word u b))
concat_word v u a b i j m = concat_step v u (cast_word v a) (cast_word u b) (nat_le (v + u) 128) refl i j m (cast_low v a.value) (cast_low u b.value)

-- what an operator gives is a word of the width that its class gives
operated : (op : Op) (v u w : ℕ) (a b : Word) → Fit (class_of op) v u → IsOf (sound_width (either_width (own_of (class_of op) v u) w)) (operate op (cast_word (sound_width (left_place (class_of op) v u w)) a) (cast_word (sound_width (right_place (class_of op) v u w)) b))
operated Mul v u w a b f = (let n = either_width (either_width v u) w in let m = sound_width n in word_of n _ (operators_keep_width m (cast_number m a.value) (cast_number m b.value) (cast_low m a.value) (cast_low m b.value)).product)
operated Add v u w a b f = (let n = either_width (either_width v u) w in let m = sound_width n in word_of n _ (operators_keep_width m (cast_number m a.value) (cast_number m b.value) (cast_low m a.value) (cast_low m b.value)).sum)
operated Sub v u w a b f = (let n = either_width (either_width v u) w in let m = sound_width n in word_of n _ (operators_keep_width m (cast_number m a.value) (cast_number m b.value) (cast_low m a.value) (cast_low m b.value)).difference)
operated Concat v u w a b f =
    let left = sound_is v f.0 in
    let right = sound_is u f.1 in
    let sum : IsWidth (v + u) = (let one = f.0.least in let m = f.2 in record { least = omega arith; most = omega arith }) in
    let small : sound_width (either_width (min 128 (v + u)) w) ≡ v + u = ap (λ n. sound_width (either_width n w)) (min-eq_right f.2) ∙ ap sound_width (kept (v + u) w sum) ∙ sound_is (v + u) sum in
    subst (λ n. IsOf n (concat_words (cast_word (sound_width v) a) (cast_word (sound_width u) b))) (sym small)
    (subst (λ n. IsOf (v + u) (concat_words (cast_word n a) (cast_word (sound_width u) b))) (sym left)
    (subst (λ n. IsOf (v + u) (concat_words (cast_word v a) (cast_word n b))) (sym right) (concat_word v u a b f.0 f.1 f.2)))
operated Shl v u w a b f = (let n = either_width v w in let m = sound_width n in word_of n _ ((operators_keep_width m (cast_number m a.value) 0 (cast_low m a.value) (pow_pos m)).left _))
operated Shr v u w a b f = (let n = either_width v w in let m = sound_width n in word_of n _ ((operators_keep_width m (cast_number m a.value) 0 (cast_low m a.value) (pow_pos m)).right _))
operated BitAnd v u w a b f = (let n = either_width (either_width v u) w in let m = sound_width n in word_of n _ (operators_keep_width m (cast_number m a.value) (cast_number m b.value) (cast_low m a.value) (cast_low m b.value)).in_both)
operated BitXor v u w a b f = (let n = either_width (either_width v u) w in let m = sound_width n in word_of n _ (operators_keep_width m (cast_number m a.value) (cast_number m b.value) (cast_low m a.value) (cast_low m b.value)).in_one)
operated BitOr v u w a b f = (let n = either_width (either_width v u) w in let m = sound_width n in word_of n _ (operators_keep_width m (cast_number m a.value) (cast_number m b.value) (cast_low m a.value) (cast_low m b.value)).in_either)
operated Less v u w a b f = bit_word _
operated LessEq v u w a b f = bit_word _
operated More v u w a b f = bit_word _
operated MoreEq v u w a b f = bit_word _
operated Equal v u w a b f = bit_word _
operated Differ v u w a b f = bit_word _
operated Both v u w a b f = bit_word _
operated Either v u w a b f = bit_word _

-- ---- expressions

picked : (b : Bool) (n : ℕ) (x y : Word) → IsOf n x → IsOf n y → IsOf n (cond b x y)
picked true n x y h k = h
picked false n x y h k = k

module _ (s : Scope) (st : Store) (shows : Shows s st) where
  abbrev rs : ReadsSound s
  rs = shown_sound s st shows

  value_has : (e : Expr) (want : Kind) → kind_width want ≤ 128 → IsFine (expr_tests s want e) → (w : ℕ) → IsOf (sound_width (either_width (own_width e st) w)) (value_of e w st)
  value_has (num p n) want m f w = word_of (either_width n.width w) _ (cast_low (sound_width (either_width n.width w)) n.value)
  value_has (flag p b) want m f w = bit_word b
  value_has (path p x) want m f w =
      let r = shows.values x f.0 (twice_not (reads (s x)) f.1.0) in
      let is : IsWidth (read st x).width = record { least = r.word.wide; most = r.word.narrow } in
      record { word = r.word; width = sym (ap sound_width (kept (read st x).width w is) ∙ sound_is (read st x).width is) }
  value_has (valid p x) want m f w = bit_word _
  value_has (applied p t h) want m f w = bit_word false
  value_has (error_name p x) want m f w = error_word (error_of x) (error_low _ _ _)
  value_has (negation p a) want m f w = bit_word _
  value_has (inversion p a) want m f w = inverted_word (either_width (own_width a st) w) (value_of a (either_width (own_width a st) w) st)
  value_has (opposite p a) want m f w = negated_word (either_width (own_width a st) w) (value_of a (either_width (own_width a st) w) st)
  value_has (binary p op a b) want m f w =
      let left = found s rs st shows a _ (left_most s rs op a b p want m f) f.1.1.0 in
      let right = found s rs st shows b _ (right_most s rs op a b p want m f) f.1.1.1 in
      let fit = subst (λ (n : ℕ). Fit (class_of op) n (own_width b st)) (sym left) (subst (λ (n : ℕ). Fit (class_of op) (kind_width (own s a)) n) (sym right) (operands_fit s rs p op a b want m f)) in
      operated op (own_width a st) (own_width b st) w (value_of a (left_place (class_of op) (own_width a st) (own_width b st) w) st) (value_of b (right_place (class_of op) (own_width a st) (own_width b st) w) st) fit
  value_has (conditional p c a b) want m f w =
      let n = either_width (either_width (own_width a st) (own_width b st)) w in
      picked (holds (value_of c 1 st)) (sound_width n) (cast_word (sound_width n) (value_of a n st)) (cast_word (sound_width n) (value_of b n st)) (cast_of n (value_of a n st)) (cast_of n (value_of b n st))
  value_has (slice p a h l) want m f w =
      subst (λ (n : ℕ). IsOf n (value_of (slice p a h l) w st)) (sym (cut_twice (h + 1 - l) w)) (word_of (h + 1 - l) _ (cast_low (sound_width (h + 1 - l)) _))
  value_has (cast p t a) want m f w =
      let is : IsWidth (width_of t) = subst IsWidth (sym (cast_found t)) (cast_wide p t f.1.0) in
      subst (λ (n : ℕ). IsOf (sound_width n) (value_of (cast p t a) w st)) (sym (kept (width_of t) w is)) (cast_of (width_of t) (value_of a 0 st))

  value_static : (e : Expr) (want : Kind) → kind_width want ≤ 128 → IsFine (expr_tests s want e) → (w : ℕ) → Serves s want e w → IsOf (static_width s want e) (value_of e w st)
  value_static e want m f w serves =
      subst (λ (n : ℕ). IsOf n (value_of e w st))
      (ap (λ v. sound_width (either_width v w)) (found s rs st shows e want m f) ∙ ap sound_width serves ∙ sound_is (static_width s want e) (static_sound s rs e want m f))
      (value_has e want m f w)

pub fine_has_static : (s : Scope) (want : Kind) → kind_width want ≤ 128 → (e : Expr) → IsFine (expr_tests s want e) → HasStaticWidth s want e
fine_has_static s want m e f =
    record {
      wanted = λ st shows. value_static s st shows e want m f (kind_width want) refl;
      served = λ st shows w serves. value_static s st shows e want m f w serves;
      found = λ st shows. found s (shown_sound s st shows) st shows e want m f;
    }
