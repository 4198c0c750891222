-- An expression that has a width of its own is of a closed kind wherever it breaks no rule, and its value does not rest on
-- its place.
use Rattle.std.proofs.Common.{arith, ◌≡◌, ℕ, zero, suc, ◌+◌, ◌-◌, ◌≤◌, Bool, true, false, cond, not, ◌&&◌, ◌||◌, nat_eq, refl, sym, ap, ap₂, ◌∙◌, subst}
use Rattle.bit_values.specs.Bits.{word, cast as cast_number}
use Rattle.bit_values.specs.Widths.{holds, either_width, sound_width, cast_word}
use Rattle.bit_values.specs.Operators.{Class, like, shift, joined, compare, logic, own_of, left_place, right_place}
use Rattle.p4_meaning.specs.Store.{Store}
use Rattle.p4_meaning.specs.Value.{own_width, value_of, inverted, negated}
use Rattle.rule_tests.specs.Tests.{IsFine}
use Rattle.p4_tree.specs.Operators.{class_of, operate}
use Rattle.p4_tree.specs.Tree.{Expr, num, flag, path, valid, applied, error_name, negation, inversion, opposite, binary, conditional, slice, cast}
use Rattle.p4_tree.specs.declared.statement.PTy.{PTy}
use Rattle.p4_tree.specs.declared.statement.PTy.TheVariants as type
use Rattle.p4_scopes.specs.Kinds.{is_open, kinds_differ, as_number, as_value, join, width_in, joined_width, class_kind, class_left, class_right, takes_any}
use Rattle.p4_scopes.specs.Scopes.{Scope, own, cast_kind, value_kind}
use Rattle.p4_scopes.specs.Uses.{reads}
use Rattle.p4_scopes.specs.declared.kind.Kind.{Kind}
use Rattle.p4_scopes.specs.declared.kind.Kind.TheVariants.{Number, Truth, Error, Unknown}
use Rattle.p4_statement_rules.specs.Expressions.{class_tests, expr_tests}
use Rattle.p4_typing_laws.specs.Soundness.{kind_width, IsWidth, IsSoundKind}
use Rattle.p4_typing_laws.proofs.Fine.{twice_not}
use Rattle.p4_typing_laws.proofs.KindWidths.{nonzero, Plain, is_plain, is_value, as_value_is, pick_plain, joined_is, slice_is, plain_width, width_in_plain}
use Rattle.p4_typing_laws.proofs.StaticWidths.{ReadsSound, differs, choice_left, choice_right, cast_wide, static_sound, own_cap, number_cap}
use Rattle.rewriting_laws.specs.OwnWidths.{class_has_own, has_own}

pub broken : {A : Type 0} → true ≡ false → A
broken h = absurd (cc)

not_true : (b : Bool) → not b ≡ true → b ≡ false
not_true true h = sym h
not_true false h = refl

pub wide_closed : (w : ℕ) → IsWidth w → nat_eq w 0 ≡ false
wide_closed zero h = absurd (omega (arith, h.least))
wide_closed (suc w) h = nonzero w (nat_eq (suc w) 0) refl

sound_closed : (k : Kind) → IsSoundKind k → is_open k ≡ false
sound_closed (Number w) h = wide_closed w h
sound_closed Truth h = refl
sound_closed Error h = refl
sound_closed Unknown h = absurd h

pub number_open : (k : Kind) → Plain k → is_open (as_number k) ≡ is_open k
number_open (Number w) h = refl
number_open Truth h = broken h
number_open Error h = broken h
number_open Unknown h = refl

pick_closed : (t : Bool) (a b : Kind) (x y : Bool) → is_open a ≡ t → (x ≡ true → is_open a ≡ false) → (y ≡ true → is_open b ≡ false) → (x || y) ≡ true → is_open (cond t b a) ≡ false
pick_closed false a b x y e h k o = e
pick_closed true a b true y e h k o = broken (sym e ∙ h refl)
pick_closed true a b false y e h k o = k o

like_closed : (a b : Kind) (x y : Bool) → Plain a → Plain b → (x ≡ true → is_open a ≡ false) → (y ≡ true → is_open b ≡ false) → (x || y) ≡ true → is_open (as_number (join a b)) ≡ false
like_closed a b x y p q h k o = number_open (join a b) (pick_plain (is_open a) a b p q) ∙ pick_closed (is_open a) a b x y refl h k o

choice_closed : (a b : Kind) (x y : Bool) → is_value a ≡ true → is_value b ≡ true → (x ≡ true → is_open a ≡ false) → (y ≡ true → is_open b ≡ false) → (x || y) ≡ true → is_open (join (as_value a) (as_value b)) ≡ false
choice_closed a b x y p q h k o =
    let P : Kind → Kind → Type 0 = λ i j. is_open (join i j) ≡ false in
    let start : P a b = pick_closed (is_open a) a b x y refl h k o in
    subst (λ i. P i (as_value b)) (sym (as_value_is a p)) (subst (λ j. P a j) (sym (as_value_is b q)) start)

cast_closed : (p : ℕ) (t : PTy) → IsWidth (kind_width (cast_kind t)) → is_open (cast_kind t) ≡ false
cast_closed p (type.Bit w) h = wide_closed w h
cast_closed p type.Bool h = refl
cast_closed p (type.Named t) h = absurd (omega (arith, h.least))

twice_width : (k : ℕ) → either_width k k ≡ k
twice_width zero = refl
twice_width (suc k) = refl

-- an operand of a concatenation has a width
joined_width_in : (a : Kind) → kinds_differ a (as_number a) ≡ false → IsWidth (either_width (kind_width a) (kind_width (as_number a))) → IsWidth (width_in a)
joined_width_in a p h =
    let plain = is_plain a a p in
    subst IsWidth (ap (either_width (kind_width a)) (plain_width a plain) ∙ (twice_width (kind_width a) ∙ sym (width_in_plain a plain))) h

joined_closed : (v w : ℕ) → IsWidth v → IsWidth w → (not (nat_eq v 0) && not (nat_eq w 0) && nat_eq (joined_width v w) 0) ≡ false → nat_eq (joined_width v w) 0 ≡ false
joined_closed v w h k f =
    let is = joined_is v w h k f in
    let wide : IsWidth (v + w) = record { least = omega (arith, h.least); most = is.1 } in
    subst (λ (n : ℕ). nat_eq n 0 ≡ false) (sym is.0) (wide_closed (v + w) wide)

class_closed : (c : Class) (t : Bool) (at : ℕ) (l r : Expr) (a b w : Kind) (x y : Bool) → IsFine (class_tests at c a b l r)
    → kinds_differ a (class_left c t a b w) ≡ false → kinds_differ b (class_right c t a b w) ≡ false
    → kind_width a ≤ 128 → kind_width b ≤ 128
    → (kind_width (class_left c t a b w) ≤ 128 → IsWidth (either_width (kind_width a) (kind_width (class_left c t a b w)))) → (kind_width (class_right c t a b w) ≤ 128 → IsWidth (either_width (kind_width b) (kind_width (class_right c t a b w))))
    → (x ≡ true → is_open a ≡ false) → (y ≡ true → is_open b ≡ false) → class_has_own c x y ≡ true → is_open (class_kind c a b) ≡ false
class_closed like t at l r a b w x y f p q ca cb m n h k o = like_closed a b x y (is_plain a _ p) (is_plain b _ q) h k o
class_closed shift t at l r a b w x y f p q ca cb m n h k o = number_open a (is_plain a _ p) ∙ h o
class_closed joined t at l r a b w x y f p q ca cb m n h k o = joined_closed (width_in a) (width_in b) (joined_width_in a p (m (number_cap a ca))) (joined_width_in b q (n (number_cap b cb))) f
class_closed compare t at l r a b w x y f p q ca cb m n h k o = refl
class_closed logic t at l r a b w x y f p q ca cb m n h k o = refl

-- an expression that has a width of its own is of a closed kind
module _ (s : Scope) (rs : ReadsSound s) where
  pub closed : (e : Expr) (w : Kind) → IsFine (expr_tests s w e) → has_own e ≡ true → is_open (own s e) ≡ false
  closed (num p n) w f o = not_true (nat_eq n.width 0) o
  closed (flag p b) w f o = refl
  closed (path p x) w f o = sound_closed (value_kind (s x)) (rs.kinds x f.0 (twice_not (reads (s x)) f.1.0))
  closed (valid p x) w f o = refl
  closed (applied p t h) w f o = refl
  closed (error_name p x) w f o = refl
  closed (negation p a) w f o = refl
  closed (inversion p a) w f o = number_open (own s a) (is_plain (own s a) _ (differs s rs a _ f.1)) ∙ closed a _ f.1 o
  closed (opposite p a) w f o = number_open (own s a) (is_plain (own s a) _ (differs s rs a _ f.1)) ∙ closed a _ f.1 o
  closed (binary p op a b) w f o =
      class_closed (class_of op) (takes_any op) p a b (own s a) (own s b) w (has_own a) (has_own b) f.1.0
      (differs s rs a _ f.1.1.0) (differs s rs b _ f.1.1.1) (own_cap s rs a _ f.1.1.0) (own_cap s rs b _ f.1.1.1) (λ m. static_sound s rs a _ m f.1.1.0) (λ m. static_sound s rs b _ m f.1.1.1)
      (closed a _ f.1.1.0) (closed b _ f.1.1.1) o
  closed (conditional p c a b) w f o =
      choice_closed (own s a) (own s b) (has_own a) (has_own b) (choice_left s rs p c a b w f) (choice_right s rs p c a b w f) (closed a _ f.1.1.0) (closed b _ f.1.1.1) o
  closed (slice p a h l) w f o =
      let is = slice_is h l _ f.1.0 in
      subst (λ (n : ℕ). nat_eq n 0 ≡ false) (sym is.0) (wide_closed (h + 1 - l) is.1)
  closed (cast p t a) w f o = cast_closed p t (cast_wide p t f.1.0)

-- ---- values

-- where an expression has a width of its own, its value does not rest on the width of its place
either_own : (k v w : ℕ) → nat_eq k 0 ≡ false → either_width k v ≡ either_width k w
either_own zero v w h = broken h
either_own (suc k) v w h = refl

class_own : (c : Class) (i j v w : ℕ) → nat_eq (own_of c i j) 0 ≡ false → left_place c i j v ≡ left_place c i j w
class_own like i j v w h = either_own (either_width i j) v w h
class_own shift i j v w h = either_own i v w h
class_own joined i j v w h = refl
class_own compare i j v w h = refl
class_own logic i j v w h = refl

class_own_right : (c : Class) (i j v w : ℕ) → nat_eq (own_of c i j) 0 ≡ false → right_place c i j v ≡ right_place c i j w
class_own_right like i j v w h = either_own (either_width i j) v w h
class_own_right shift i j v w h = refl
class_own_right joined i j v w h = refl
class_own_right compare i j v w h = refl
class_own_right logic i j v w h = refl

pub place_free : (e : Expr) (st : Store) (v w : ℕ) → nat_eq (own_width e st) 0 ≡ false → value_of e v st ≡ value_of e w st
place_free (num p n) st v w h = ap (λ (k : ℕ). word (sound_width k) (cast_number (sound_width k) n.value)) (either_own n.width v w h)
place_free (flag p b) st v w h = refl
place_free (path p x) st v w h = refl
place_free (valid p x) st v w h = refl
place_free (applied p t b) st v w h = refl
place_free (error_name p x) st v w h = refl
place_free (negation p a) st v w h = refl
place_free (inversion p a) st v w h = ap (λ (k : ℕ). inverted (cast_word (sound_width k) (value_of a k st))) (either_own (own_width a st) v w h)
place_free (opposite p a) st v w h = ap (λ (k : ℕ). negated (cast_word (sound_width k) (value_of a k st))) (either_own (own_width a st) v w h)
place_free (binary p op a b) st v w h =
    ap₂ (operate op)
    (ap (λ (k : ℕ). cast_word (sound_width k) (value_of a k st)) (class_own (class_of op) (own_width a st) (own_width b st) v w h))
    (ap (λ (k : ℕ). cast_word (sound_width k) (value_of b k st)) (class_own_right (class_of op) (own_width a st) (own_width b st) v w h))
place_free (conditional p c a b) st v w h =
    ap (λ (k : ℕ). cond (holds (value_of c 1 st)) (cast_word (sound_width k) (value_of a k st)) (cast_word (sound_width k) (value_of b k st))) (either_own (either_width (own_width a st) (own_width b st)) v w h)
place_free (slice p a i l) st v w h = refl
place_free (cast p t a) st v w h = refl
