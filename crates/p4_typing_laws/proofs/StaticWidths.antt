-- The static width of an expression that breaks no rule can be a width, and it is the one that the meaning finds, by
-- induction on the expression: what is read is of a sound kind, a number takes its width from its place, and an
-- operator's width is that of an operand.
use Rattle.std.proofs.Common.{◌≡◌, ℕ, ◌+◌, ◌-◌, ◌≤◌, zero, suc, List, Bool, true, false, cond, not, ◌||◌, ◌&&◌, nat_eq, nat_lt, min, refl, sym, ap, ap₂, ◌∙◌, subst, arith}
use Rattle.std.proofs.lemmas.Bool.Decides.{nat_tests}
use Rattle.std.proofs.Math.Nat.{min-eq_right}
use Rattle.rule_tests.specs.Tests.{IsFine}
use Rattle.bit_values.specs.Bits.{Word}
use Rattle.bit_values.specs.Widths.{either_width}
use Rattle.bit_values.specs.Operators.{Class, like, shift, joined, compare, logic, own_of}
use Rattle.p4_tree.specs.Tree.{Expr, num, flag, path, valid, applied, error_name, negation, inversion, opposite, binary, conditional, slice, cast}
use Rattle.p4_tree.specs.Operators.{class_of}
use Rattle.p4_tree.specs.declared.statement.Op.{Op}
use Rattle.p4_tree.specs.declared.statement.PTy.{PTy}
use Rattle.p4_tree.specs.declared.statement.PTy.TheVariants as type
use Rattle.p4_meaning.specs.Store.{Store, read}
use Rattle.p4_meaning.specs.Value.{width_of, own_width}
use Rattle.p4_meaning.specs.Laws.{IsOf}
use Rattle.p4_meaning.proofs.Words.{sound}
use Rattle.p4_scopes.specs.Kinds.{is_open, join, as_number, as_value, width_in, kinds_differ, takes_any, joined_width, slice_width, class_kind, choice_kind, like_want, class_left, class_right, left_want, right_want, choice_want}
use Rattle.p4_scopes.specs.Scopes.{is_missing, value_kind, Scope, cast_kind, own}
use Rattle.p4_scopes.specs.Uses.{reads}
use Rattle.p4_scopes.specs.declared.kind.Kind.{Kind}
use Rattle.p4_scopes.specs.declared.kind.Kind.TheVariants.{Number, Truth, Error, Unknown}
use Rattle.p4_statement_rules.specs.Expressions.{bad_width, class_tests, expr_tests, cast_type_tests}
use Rattle.p4_typing_laws.specs.Soundness.{kind_width, IsWidth, IsSoundKind}
use Rattle.p4_typing_laws.specs.Widths.{static_width, Shows}
use Rattle.p4_typing_laws.proofs.Fine.{twice_not, neither}
use Rattle.p4_typing_laws.proofs.Agreement.{agrees}
use Rattle.p4_typing_laws.proofs.KindWidths.{one_bit, two_bits, nonzero, given, twice, first_given, Plain, is_plain, plain_width, width_in_plain, want_plain, join_plain, like_width, is_value, is_some_kind, choice_no_error, is_value_there, as_value_is, pick_value, value_some, choice_place, choice_width, joined_is, slice_is}

-- what is read is of a sound kind
pub record ReadsSound (s : Scope) : Type 0 where
  pub kinds : (x : List (List ℕ)) → is_missing (s x) ≡ false → reads (s x) ≡ true → IsSoundKind (value_kind (s x))

some_sound : (k : Kind) → IsSoundKind k → is_some_kind k ≡ true
some_sound (Number w) h = refl
some_sound Truth h = refl
some_sound Error h = refl
some_sound Unknown h = absurd h

pub sound_width_of : (k : Kind) → IsSoundKind k → IsWidth (kind_width k)
sound_width_of (Number w) h = h
sound_width_of Truth h = one_bit
sound_width_of Error h = two_bits
sound_width_of Unknown h = absurd h

-- ---- small facts

-- a width that is found fine
pub good_width : (w : ℕ) → bad_width w ≡ false → IsWidth w
good_width w h = (let k = neither (nat_eq w 0) (nat_lt 128 w) h in record { least = grind (arith, nat_tests, k.0); most = grind (arith, nat_tests, k.1) })

narrow : (w : ℕ) → nat_lt 128 w ≡ false → w ≤ 128
narrow w h = grind (arith, nat_tests)

some_number : (k : Kind) → is_some_kind (as_number k) ≡ true
some_number (Number w) = refl
some_number Truth = refl
some_number Error = refl
some_number Unknown = refl

some_class : (c : Class) (a b : Kind) → is_some_kind (class_kind c a b) ≡ true
some_class like a b = some_number (join a b)
some_class shift a b = some_number a
some_class joined a b = refl
some_class compare a b = refl
some_class logic a b = refl

some_cast : (p : ℕ) (t : PTy) → IsFine (cast_type_tests p t) → is_some_kind (cast_kind t) ≡ true
some_cast p (type.Bit w) f = refl
some_cast p type.Bool f = refl
some_cast p (type.Named t) f = absurd (let c : true ≡ false = f in cc)

pub pick_cap : (t : Bool) (a b : Kind) → kind_width a ≤ 128 → kind_width b ≤ 128 → kind_width (cond t b a) ≤ 128
pick_cap true a b h k = k
pick_cap false a b h k = h

pub number_cap : (k : Kind) → kind_width k ≤ 128 → kind_width (as_number k) ≤ 128
number_cap (Number w) h = h
number_cap Truth h = omega arith
number_cap Error h = omega arith
number_cap Unknown h = omega arith

pub value_cap : (k : Kind) → kind_width k ≤ 128 → kind_width (as_value k) ≤ 128
value_cap (Number w) h = h
value_cap Truth h = omega arith
value_cap Error h = omega arith
value_cap Unknown h = omega arith

joined_cap : (v w : ℕ) → joined_width v w ≤ 128
joined_cap v w = go (nat_eq v 0) (nat_eq w 0) (nat_lt 128 (v + w)) refl
  where
    go : (x y z : Bool) → nat_lt 128 (v + w) ≡ z → cond (x || y || z) 0 (v + w) ≤ 128
    go true y z e = omega arith
    go false true z e = omega arith
    go false false true e = omega arith
    go false false false e = narrow (v + w) e

class_cap : (c : Class) (a b : Kind) → kind_width a ≤ 128 → kind_width b ≤ 128 → kind_width (class_kind c a b) ≤ 128
class_cap like a b h k = number_cap (join a b) (pick_cap (is_open a) a b h k)
class_cap shift a b h k = number_cap a h
class_cap joined a b h k = joined_cap (width_in a) (width_in b)
class_cap compare a b h k = omega arith
class_cap logic a b h k = omega arith

like_cap : (a b want : Kind) → kind_width a ≤ 128 → kind_width b ≤ 128 → kind_width want ≤ 128 → kind_width (like_want a b want) ≤ 128
like_cap a b want h k l =
    let both = pick_cap (is_open (as_number a)) (as_number a) (as_number b) (number_cap a h) (number_cap b k) in
    let whole = pick_cap (is_open (join (as_number a) (as_number b))) (join (as_number a) (as_number b)) want both l in
    number_cap (join (join (as_number a) (as_number b)) want) whole

left_cap : (c : Class) (t : Bool) (a b want : Kind) → kind_width a ≤ 128 → kind_width b ≤ 128 → kind_width want ≤ 128 → kind_width (class_left c t a b want) ≤ 128
left_cap like t a b want h k l = like_cap a b want h k l
left_cap shift t a b want h k l = number_cap (join a want) (pick_cap (is_open a) a want h l)
left_cap joined t a b want h k l = number_cap a h
left_cap compare true a b want h k l = pick_cap (is_open a) a b h k
left_cap compare false a b want h k l = number_cap (join a b) (pick_cap (is_open a) a b h k)
left_cap logic t a b want h k l = omega arith

right_cap : (c : Class) (t : Bool) (a b want : Kind) → kind_width a ≤ 128 → kind_width b ≤ 128 → kind_width want ≤ 128 → kind_width (class_right c t a b want) ≤ 128
right_cap like t a b want h k l = like_cap a b want h k l
right_cap shift t a b want h k l = number_cap (join b (Number 128)) (pick_cap (is_open b) b (Number 128) k (omega arith))
right_cap joined t a b want h k l = number_cap b k
right_cap compare true a b want h k l = pick_cap (is_open a) a b h k
right_cap compare false a b want h k l = number_cap (join a b) (pick_cap (is_open a) a b h k)
right_cap logic t a b want h k l = omega arith

choice_cap : (a b want : Kind) → kind_width a ≤ 128 → kind_width b ≤ 128 → kind_width want ≤ 128 → kind_width (choice_want a b want) ≤ 128
choice_cap a b want h k l =
    pick_cap (is_open (choice_kind a b)) (choice_kind a b) (as_value want)
    (pick_cap (is_open (as_value a)) (as_value a) (as_value b) (value_cap a h) (value_cap b k)) (value_cap want l)

-- ---- kinds of expressions

module _ (s : Scope) (rs : ReadsSound s) where
  kind_fine : (e : Expr) (want : Kind) → IsFine (expr_tests s want e) → kinds_differ (own s e) want ≡ false
  kind_fine e want f = (agrees s want e f).kind

  -- both values of a choice are numbers or truth values
  pub some_kind : (e : Expr) (want : Kind) → IsFine (expr_tests s want e) → is_some_kind (own s e) ≡ true
  some_kind (num p n) want f = refl
  some_kind (flag p b) want f = refl
  some_kind (path p x) want f = some_sound (value_kind (s x)) (rs.kinds x f.0 (twice_not (reads (s x)) f.1.0))
  some_kind (valid p x) want f = refl
  some_kind (applied p t h) want f = refl
  some_kind (error_name p x) want f = refl
  some_kind (negation p a) want f = refl
  some_kind (inversion p a) want f = some_number (own s a)
  some_kind (opposite p a) want f = some_number (own s a)
  some_kind (binary p op a b) want f = some_class (class_of op) (own s a) (own s b)
  some_kind (conditional p c a b) want f =
      let place = choice_want (own s a) (own s b) want in
      let free = choice_no_error (own s a) (own s b) want in
      let left : is_value (own s a) ≡ true = is_value_there (own s a) place (some_kind a place f.1.1.0) free (kind_fine a place f.1.1.0) in
      let right : is_value (own s b) ≡ true = is_value_there (own s b) place (some_kind b place f.1.1.1) free (kind_fine b place f.1.1.1) in
      value_some (choice_kind (own s a) (own s b)) (pick_value (is_open (as_value (own s a))) (as_value (own s a)) (as_value (own s b)) (ap is_value (as_value_is (own s a) left) ∙ left) (ap is_value (as_value_is (own s b) right) ∙ right))
  some_kind (slice p a h l) want f = refl
  some_kind (cast p t a) want f = some_cast p t f.1.0

  pub choice_left : (p : ℕ) (c a b : Expr) (want : Kind) → IsFine (expr_tests s want (conditional p c a b)) → is_value (own s a) ≡ true
  choice_left p c a b want f = is_value_there (own s a) (choice_want (own s a) (own s b) want) (some_kind a _ f.1.1.0) (choice_no_error (own s a) (own s b) want) (kind_fine a _ f.1.1.0)

  pub choice_right : (p : ℕ) (c a b : Expr) (want : Kind) → IsFine (expr_tests s want (conditional p c a b)) → is_value (own s b) ≡ true
  choice_right p c a b want f = is_value_there (own s b) (choice_want (own s a) (own s b) want) (some_kind b _ f.1.1.1) (choice_no_error (own s a) (own s b) want) (kind_fine b _ f.1.1.1)

  -- no expression is wider than 128 bits
  pub own_cap : (e : Expr) (want : Kind) → IsFine (expr_tests s want e) → kind_width (own s e) ≤ 128
  own_cap (num p n) want f = narrow n.width f.1.1
  own_cap (flag p b) want f = omega arith
  own_cap (path p x) want f = (sound_width_of (value_kind (s x)) (rs.kinds x f.0 (twice_not (reads (s x)) f.1.0))).most
  own_cap (valid p x) want f = omega arith
  own_cap (applied p t h) want f = omega arith
  own_cap (error_name p x) want f = omega arith
  own_cap (negation p a) want f = omega arith
  own_cap (inversion p a) want f = number_cap (own s a) (own_cap a _ f.1)
  own_cap (opposite p a) want f = number_cap (own s a) (own_cap a _ f.1)
  own_cap (binary p op a b) want f = class_cap (class_of op) (own s a) (own s b) (own_cap a _ f.1.1.0) (own_cap b _ f.1.1.1)
  own_cap (conditional p c a b) want f = pick_cap (is_open (as_value (own s a))) (as_value (own s a)) (as_value (own s b)) (value_cap (own s a) (own_cap a _ f.1.1.0)) (value_cap (own s b) (own_cap b _ f.1.1.1))
  own_cap (slice p a h l) want f = (let k = slice_is h l _ f.1.0 in subst (λ (n : ℕ). n ≤ 128) (sym k.0) k.1.most)
  own_cap (cast p t a) want f = cast_cap p t f.1.0
    where
      cast_cap : (q : ℕ) (u : PTy) → IsFine (cast_type_tests q u) → kind_width (cast_kind u) ≤ 128
      cast_cap q (type.Bit w) g = (good_width w g).most
      cast_cap q type.Bool g = omega arith
      cast_cap q (type.Named t) g = omega arith

-- ---- static widths

number_step : (v : ℕ) (want : Kind) → kinds_differ (Number v) want ≡ false → cond (nat_eq v 0) (width_in want) v ≡ either_width v (kind_width want)
number_step zero (Number w) h = refl
number_step zero Truth h = absurd (let c : true ≡ false = h in cc)
number_step zero Error h = absurd (let c : true ≡ false = h in cc)
number_step zero Unknown h = refl
number_step (suc v) want h = ap (λ b. cond b (width_in want) (suc v)) (nonzero v (nat_eq (suc v) 0) refl)

either_cap : (v w : ℕ) → v ≤ 128 → w ≤ 128 → either_width v w ≤ 128
either_cap zero w h k = k
either_cap (suc v) w h k = h

number_sound : (v : ℕ) (want : Kind) → kinds_differ (Number v) want ≡ false → nat_eq (cond (nat_eq v 0) (width_in want) v) 0 ≡ false → v ≤ 128 → kind_width want ≤ 128 → IsWidth (either_width v (kind_width want))
number_sound v want h k l m =
    let some : nat_eq (either_width v (kind_width want)) 0 ≡ false = subst (λ (n : ℕ). nat_eq n 0 ≡ false) (number_step v want h) k in
    let most : either_width v (kind_width want) ≤ 128 = either_cap v (kind_width want) l m in
    sound_of (either_width v (kind_width want)) some most
  where
    sound_of : (n : ℕ) → nat_eq n 0 ≡ false → n ≤ 128 → IsWidth n
    sound_of n e o = record { least = grind (arith, nat_tests); most = o }

-- a shift, and `~`, has a width where its operand has
shift_step : (a want : Kind) → kinds_differ (as_number a) want ≡ false → kinds_differ a (as_number (join a want)) ≡ false → IsWidth (either_width (kind_width a) (kind_width (as_number (join a want)))) → IsWidth (either_width (kind_width (as_number a)) (kind_width want))
shift_step a want h k is =
    let pa = is_plain a (join a want) k in
    let pw = want_plain a want h in
    subst IsWidth
    (ap (either_width (kind_width a)) (join_plain a want pa pw) ∙ twice (kind_width a) (kind_width want) ∙ sym (ap (λ v. either_width v (kind_width want)) (plain_width a pa)))
    is

-- an operand of a concatenation has a width
joined_operand : (a : Kind) → Plain a → IsWidth (either_width (kind_width a) (kind_width (as_number a))) → IsWidth (width_in a)
joined_operand (Number zero) h is = is
joined_operand (Number (suc w)) h is = is
joined_operand Truth h is = absurd (let c : true ≡ false = h in cc)
joined_operand Error h is = absurd (let c : true ≡ false = h in cc)
joined_operand Unknown h is = is

-- what is tested of the operands of an operator, as far as widths rest on it
abbrev IsJoined : Class → (a b : Kind) → Type 0
IsJoined joined a b = (not (nat_eq (width_in a) 0) && not (nat_eq (width_in b) 0) && nat_eq (joined_width (width_in a) (width_in b)) 0) ≡ false
IsJoined like a b = Unit {0}
IsJoined shift a b = Unit {0}
IsJoined compare a b = Unit {0}
IsJoined logic a b = Unit {0}

tested_joined : (c : Class) (p : ℕ) (k l : Kind) (a b : Expr) → IsFine (class_tests p c k l a b) → IsJoined c k l
tested_joined like p k l a b f = tt
tested_joined shift p k l a b f = tt
tested_joined joined p k l a b f = f
tested_joined compare p k l a b f = tt
tested_joined logic p k l a b f = tt

-- an operator has a width where its operands have
class_sound : (c : Class) (t : Bool) (a b want : Kind) → IsJoined c a b → kinds_differ (class_kind c a b) want ≡ false → kinds_differ a (class_left c t a b want) ≡ false → kinds_differ b (class_right c t a b want) ≡ false
    → IsWidth (either_width (kind_width a) (kind_width (class_left c t a b want))) → IsWidth (either_width (kind_width b) (kind_width (class_right c t a b want))) → IsWidth (either_width (kind_width (class_kind c a b)) (kind_width want))
class_sound like t a b want j h k l is js =
    let pa = is_plain a (join (join (as_number a) (as_number b)) want) k in
    let pb = is_plain b (join (join (as_number a) (as_number b)) want) l in
    let pw = want_plain (join a b) want h in
    subst IsWidth
    (ap (either_width (kind_width a)) (like_width a b want pa pb pw) ∙ first_given (kind_width a) (kind_width b) (kind_width want) ∙ sym (ap (λ v. either_width v (kind_width want)) (join_plain a b pa pb)))
    is
class_sound shift t a b want j h k l is js = shift_step a want h k is
class_sound joined t a b want j h k l is js =
    let left = joined_operand a (is_plain a a k) is in
    let right = joined_operand b (is_plain b b l) js in
    let sum = joined_is (width_in a) (width_in b) left right j in
    given (joined_width (width_in a) (width_in b)) (kind_width want) (subst IsWidth (sym sum.0) (let one = left.least in let most = sum.1 in record { least = omega arith; most = most }))
class_sound compare t a b want j h k l is js = given 1 (kind_width want) one_bit
class_sound logic t a b want j h k l is js = given 1 (kind_width want) one_bit

-- the width that the meaning finds of an operator is that of its kind
class_found : (c : Class) (t : Bool) (a b want : Kind) → IsJoined c a b → kinds_differ a (class_left c t a b want) ≡ false → kinds_differ b (class_right c t a b want) ≡ false
    → IsWidth (either_width (kind_width a) (kind_width (class_left c t a b want))) → IsWidth (either_width (kind_width b) (kind_width (class_right c t a b want))) → own_of c (kind_width a) (kind_width b) ≡ kind_width (class_kind c a b)
class_found like t a b want j k l is js =
    let place = join (join (as_number a) (as_number b)) want in
    sym (join_plain a b (is_plain a place k) (is_plain b place l))
class_found shift t a b want j k l is js = sym (plain_width a (is_plain a (join a want) k))
class_found joined t a b want j k l is js =
    let sum = joined_is (width_in a) (width_in b) (joined_operand a (is_plain a a k) is) (joined_operand b (is_plain b b l) js) j in
    ap₂ (λ n m. min 128 (n + m)) (sym (width_in_plain a (is_plain a a k))) (sym (width_in_plain b (is_plain b b l))) ∙ min-eq_right sum.1 ∙ sym sum.0
class_found compare t a b want j k l is js = refl
class_found logic t a b want j k l is js = refl

-- what is known of the widths of the operands of a concatenation
abbrev pub Fit : Class → (v u : ℕ) → Type 0
Fit joined v u = IsWidth v × IsWidth u × (v + u ≤ 128)
Fit like v u = Unit {0}
Fit shift v u = Unit {0}
Fit compare v u = Unit {0}
Fit logic v u = Unit {0}

class_fit : (c : Class) (t : Bool) (a b want : Kind) → IsJoined c a b → kinds_differ a (class_left c t a b want) ≡ false → kinds_differ b (class_right c t a b want) ≡ false
    → IsWidth (either_width (kind_width a) (kind_width (class_left c t a b want))) → IsWidth (either_width (kind_width b) (kind_width (class_right c t a b want))) → Fit c (kind_width a) (kind_width b)
class_fit like t a b want j k l is js = tt
class_fit shift t a b want j k l is js = tt
class_fit joined t a b want j k l is js =
    let left = joined_operand a (is_plain a a k) is in
    let right = joined_operand b (is_plain b b l) js in
    let sum = joined_is (width_in a) (width_in b) left right j in
    let e = width_in_plain a (is_plain a a k) in
    let g = width_in_plain b (is_plain b b l) in
    (subst IsWidth e left, subst IsWidth g right, subst (λ (n : ℕ). n ≤ 128) (ap₂ (λ n m. n + m) e g) sum.1)
class_fit compare t a b want j k l is js = tt
class_fit logic t a b want j k l is js = tt

pub cast_wide : (p : ℕ) (t : PTy) → IsFine (cast_type_tests p t) → IsWidth (kind_width (cast_kind t))
cast_wide p (type.Bit w) f = good_width w f
cast_wide p type.Bool f = one_bit
cast_wide p (type.Named x) f = absurd (let c : true ≡ false = f in cc)

pub cast_found : (t : PTy) → width_of t ≡ kind_width (cast_kind t)
cast_found (type.Bit w) = refl
cast_found type.Bool = refl
cast_found (type.Named x) = refl

module _ (s : Scope) (rs : ReadsSound s) where
  pub differs : (e : Expr) (want : Kind) → IsFine (expr_tests s want e) → kinds_differ (own s e) want ≡ false
  differs e want f = (agrees s want e f).kind

  pub left_most : (op : Op) (a b : Expr) (p : ℕ) (want : Kind) → kind_width want ≤ 128 → IsFine (expr_tests s want (binary p op a b)) → kind_width (left_want op (own s a) (own s b) want) ≤ 128
  left_most op a b p want m f = left_cap (class_of op) (takes_any op) (own s a) (own s b) want (own_cap s rs a _ f.1.1.0) (own_cap s rs b _ f.1.1.1) m

  pub right_most : (op : Op) (a b : Expr) (p : ℕ) (want : Kind) → kind_width want ≤ 128 → IsFine (expr_tests s want (binary p op a b)) → kind_width (right_want op (own s a) (own s b) want) ≤ 128
  right_most op a b p want m f = right_cap (class_of op) (takes_any op) (own s a) (own s b) want (own_cap s rs a _ f.1.1.0) (own_cap s rs b _ f.1.1.1) m

  pub turned_most : (a : Expr) (want wanted : Kind) → kind_width want ≤ 128 → IsFine (expr_tests s wanted a) → kind_width (as_number (join (own s a) want)) ≤ 128
  turned_most a want wanted m f = number_cap (join (own s a) want) (pick_cap (is_open (own s a)) (own s a) want (own_cap s rs a wanted f) m)

  pub choice_most : (a b : Expr) (want wanted : Kind) → kind_width want ≤ 128 → IsFine (expr_tests s wanted a) → IsFine (expr_tests s wanted b) → kind_width (choice_want (own s a) (own s b) want) ≤ 128
  choice_most a b want wanted m f g = choice_cap (own s a) (own s b) want (own_cap s rs a wanted f) (own_cap s rs b wanted g) m

  pub static_sound : (e : Expr) (want : Kind) → kind_width want ≤ 128 → IsFine (expr_tests s want e) → IsWidth (static_width s want e)
  static_sound (num p n) want m f = number_sound n.width want f.0.1 f.1.0 (narrow n.width f.1.1) m
  static_sound (flag p b) want m f = given 1 (kind_width want) one_bit
  static_sound (path p x) want m f = given _ (kind_width want) (sound_width_of (value_kind (s x)) (rs.kinds x f.0 (twice_not (reads (s x)) f.1.0)))
  static_sound (valid p x) want m f = given 1 (kind_width want) one_bit
  static_sound (applied p t h) want m f = given 1 (kind_width want) one_bit
  static_sound (error_name p x) want m f = given 2 (kind_width want) two_bits
  static_sound (negation p a) want m f = given 1 (kind_width want) one_bit
  static_sound (inversion p a) want m f = shift_step (own s a) want f.0.1 (differs a _ f.1) (static_sound a _ (turned_most a want _ m f.1) f.1)
  static_sound (opposite p a) want m f = shift_step (own s a) want f.0.1 (differs a _ f.1) (static_sound a _ (turned_most a want _ m f.1) f.1)
  static_sound (binary p op a b) want m f =
      class_sound (class_of op) (takes_any op) (own s a) (own s b) want (tested_joined (class_of op) p (own s a) (own s b) a b f.1.0) f.0.1 (differs a _ f.1.1.0) (differs b _ f.1.1.1)
      (static_sound a _ (left_most op a b p want m f) f.1.1.0) (static_sound b _ (right_most op a b p want m f) f.1.1.1)
  static_sound (conditional p c a b) want m f =
      let i = choice_left s rs p c a b want f in
      let j = choice_right s rs p c a b want f in
      subst IsWidth
      (ap (either_width (kind_width (own s a))) (choice_place (own s a) (own s b) want i j f.0.1) ∙ first_given (kind_width (own s a)) (kind_width (own s b)) (kind_width want) ∙ sym (ap (λ v. either_width v (kind_width want)) (choice_width (own s a) (own s b) i j)))
      (static_sound a _ (choice_most a b want _ m f.1.1.0 f.1.1.1) f.1.1.0)
  static_sound (slice p a h l) want m f = (let k = slice_is h l _ f.1.0 in given (slice_width h l) (kind_width want) (subst IsWidth (sym k.0) k.1))
  static_sound (cast p t a) want m f = given (kind_width (cast_kind t)) (kind_width want) (cast_wide p t f.1.0)

  pub operands_fit : (p : ℕ) (op : Op) (a b : Expr) (want : Kind) → kind_width want ≤ 128 → IsFine (expr_tests s want (binary p op a b)) → Fit (class_of op) (kind_width (own s a)) (kind_width (own s b))
  operands_fit p op a b want m f =
      class_fit (class_of op) (takes_any op) (own s a) (own s b) want (tested_joined (class_of op) p (own s a) (own s b) a b f.1.0) (differs a _ f.1.1.0) (differs b _ f.1.1.1)
      (static_sound a _ (left_most op a b p want m f) f.1.1.0) (static_sound b _ (right_most op a b p want m f) f.1.1.1)

  -- ---- what the meaning finds

  module _ (st : Store) (shows : Shows s st) where
    pub found : (e : Expr) (want : Kind) → kind_width want ≤ 128 → IsFine (expr_tests s want e) → own_width e st ≡ kind_width (own s e)
    found (num p n) want m f = refl
    found (flag p b) want m f = refl
    found (path p x) want m f = (shows.values x f.0 (twice_not (reads (s x)) f.1.0)).width
    found (valid p x) want m f = refl
    found (applied p t h) want m f = refl
    found (error_name p x) want m f = refl
    found (negation p a) want m f = refl
    found (inversion p a) want m f = found a _ (turned_most a want _ m f.1) f.1 ∙ sym (plain_width (own s a) (is_plain (own s a) _ (differs a _ f.1)))
    found (opposite p a) want m f = found a _ (turned_most a want _ m f.1) f.1 ∙ sym (plain_width (own s a) (is_plain (own s a) _ (differs a _ f.1)))
    found (binary p op a b) want m f =
        let left = left_most op a b p want m f in
        let right = right_most op a b p want m f in
        ap₂ (own_of (class_of op)) (found a _ left f.1.1.0) (found b _ right f.1.1.1)
        ∙ class_found (class_of op) (takes_any op) (own s a) (own s b) want (tested_joined (class_of op) p (own s a) (own s b) a b f.1.0) (differs a _ f.1.1.0) (differs b _ f.1.1.1)
        (static_sound a _ left f.1.1.0) (static_sound b _ right f.1.1.1)
    found (conditional p c a b) want m f =
        let most = choice_most a b want _ m f.1.1.0 f.1.1.1 in
        ap₂ either_width (found a _ most f.1.1.0) (found b _ most f.1.1.1) ∙ sym (choice_width (own s a) (own s b) (choice_left s rs p c a b want f) (choice_right s rs p c a b want f))
    found (slice p a h l) want m f = (let k = slice_is h l _ f.1.0 in sound (h + 1 - l) k.1.least k.1.most ∙ sym k.0)
    found (cast p t a) want m f = cast_found t

-- what a store shows is of a sound kind
pub shown_sound : (s : Scope) (st : Store) → Shows s st → ReadsSound s
shown_sound s st shows = record { kinds = λ x h k. (let r = shows.values x h k in by (value_kind (s x)) (read st x) r) }
  where
    by : (k : Kind) (w : Word) → IsOf (kind_width k) w → IsSoundKind k
    by (Number v) w r = (let wide = r.word.wide in let thin = r.word.narrow in let e = r.width in record { least = omega arith; most = omega arith })
    by Truth w r = tt
    by Error w r = tt
    by Unknown w r = absurd (let wide = r.word.wide in let e = r.width in omega arith)
