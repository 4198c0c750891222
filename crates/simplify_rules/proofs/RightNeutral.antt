-- An operand beside one that changes nothing may stand for the whole.
use Rattle.std.proofs.Common.{arith, ◌⊎◌, inl, inr, ◌≡◌, ℕ, ◌+◌, ◌-◌, ◌*◌, ◌/◌, ◌%◌, ◌^◌, ◌<◌, ◌≤◌, Bool, true, false, nat_eq, refl, sym, ap, ◌∙◌, subst, pow_pos}
use Rattle.std.specs.Int.Bits.{or_zero_r, xor_zero_r}
use Rattle.std.proofs.Math.Nat.{add-mod_right}
use Rattle.std.proofs.Math.Pow.{pow-lt}
use Rattle.p4_meaning.proofs.Words.{sound_wide}
use Rattle.std.specs.Prelude.{bit_or, bit_xor}
use Rattle.bit_values.specs.Bits.{Word, word, cast as cast_number}
use Rattle.bit_values.specs.Widths.{either_width, sound_width, cast_word}
use Rattle.bit_values.specs.Operators.{Class, like, shift, joined, compare, logic, left_place, right_place}
use Rattle.bit_values.proofs.BitsLemmas.{cast_of_small}
use Rattle.lex_text.specs.declared.literal.Literal.{Literal}
use Rattle.rule_tests.specs.Tests.{IsFine}
use Rattle.p4_meaning.specs.Store.{Store}
use Rattle.p4_meaning.specs.Value.{own_width, value_of}
use Rattle.p4_tree.specs.Tree.{Expr, num, binary}
use Rattle.p4_tree.specs.Operators.{class_of, operate}
use Rattle.p4_tree.specs.declared.statement.Op.{Op}
use Rattle.p4_tree.specs.declared.statement.Op.TheVariants.{Mul, Add, Sub, Shl, Shr, BitXor, BitOr}
use Rattle.p4_scopes.specs.Kinds.{is_open, kinds_differ, as_number, class_kind, class_left, takes_any}
use Rattle.p4_scopes.specs.Scopes.{Scope, own}
use Rattle.p4_scopes.specs.declared.kind.Kind.{Kind}
use Rattle.p4_scopes.specs.declared.kind.Kind.TheVariants.{Number, Truth, Error, Unknown}
use Rattle.p4_statement_rules.specs.Expressions.{expr_tests}
use Rattle.p4_rule_laws.specs.Replaced.{IsReplaced}
use Rattle.p4_typing_laws.specs.Soundness.{kind_width, IsSound}
use Rattle.p4_typing_laws.specs.Widths.{Shows}
use Rattle.p4_typing_laws.proofs.KindWidths.{Plain, is_plain, is_value}
use Rattle.p4_typing_laws.proofs.StaticWidths.{shown_sound, differs, found, left_most}
use Rattle.p4_typing_laws.proofs.ValueWidths.{fine_has_static}
use Rattle.rewriting_laws.specs.Standing.{MayStandFor}
use Rattle.rewriting_laws.specs.OwnWidths.{has_own}
use Rattle.rewriting_laws.proofs.Closed.{broken, closed}
use Rattle.rewriting_laws.proofs.Refits.{Fit, closed_join, refit, kept_value, either_is, nonzero_width, no_error_name, sound_reads}

pub plus_zero : (n : ℕ) → n + 0 ≡ n
plus_zero n = omega arith

times_one : (n : ℕ) → n * 1 ≡ n
times_one n = omega arith

over_one : (n : ℕ) → n / 1 ≡ n
over_one n = omega arith

add_zero : (V U : Word) → V.value < 2 ^ V.width → U.value ≡ 0 → operate Add V U ≡ V
add_zero V U h e = ap (word V.width) (ap (λ (n : ℕ). (V.value + n) % 2 ^ V.width) e ∙ (ap (λ (n : ℕ). n % 2 ^ V.width) (plus_zero V.value) ∙ cast_of_small V.width V.value h))

or_zero : (V U : Word) → U.value ≡ 0 → operate BitOr V U ≡ V
or_zero V U e = ap (word V.width) (ap (bit_or V.value) e ∙ or_zero_r V.value)

shr_zero : (V U : Word) → U.value ≡ 0 → operate Shr V U ≡ V
shr_zero V U e = ap (word V.width) (ap (λ (n : ℕ). V.value / 2 ^ n) e ∙ over_one V.value)

shl_zero : (V U : Word) → V.value < 2 ^ V.width → U.value ≡ 0 → operate Shl V U ≡ V
shl_zero V U h e = ap (word V.width) (ap (λ (n : ℕ). V.value * 2 ^ n % 2 ^ V.width) e ∙ (ap (λ (n : ℕ). n % 2 ^ V.width) (times_one V.value) ∙ cast_of_small V.width V.value h))

minus_zero : (n : ℕ) → n - 0 ≡ n
minus_zero n = omega arith

sub_zero : (V U : Word) → V.value < 2 ^ V.width → U.value ≡ 0 → operate Sub V U ≡ V
sub_zero V U h e =
    let m = 2 ^ V.width in
    ap (word V.width) (ap (λ (n : ℕ). (V.value + m - n) % m) e ∙ (ap (λ (n : ℕ). n % m) (minus_zero (V.value + m)) ∙ (add-mod_right V.value m ∙ cast_of_small V.width V.value h)))

xor_zero : (V U : Word) → U.value ≡ 0 → operate BitXor V U ≡ V
xor_zero V U e = ap (word V.width) (ap (bit_xor V.value) e ∙ xor_zero_r V.value)

mul_one : (V U : Word) → V.value < 2 ^ V.width → U.value ≡ 1 → operate Mul V U ≡ V
mul_one V U h e = ap (word V.width) (ap (λ (n : ℕ). V.value * n % 2 ^ V.width) e ∙ (ap (λ (n : ℕ). n % 2 ^ V.width) (times_one V.value) ∙ cast_of_small V.width V.value h))

-- the operators that keep their left operand beside a number, and the number
abbrev pub keeps_left : Op → Bool
keeps_left Add = true
keeps_left Sub = true
keeps_left BitOr = true
keeps_left BitXor = true
keeps_left Shl = true
keeps_left Shr = true
keeps_left Mul = true
keeps_left _ = false

abbrev pub neutral_of : Op → ℕ
neutral_of Mul = 1
neutral_of _ = 0

left_kept : (op : Op) (V U : Word) → keeps_left op ≡ true → V.value < 2 ^ V.width → U.value ≡ neutral_of op → operate op V U ≡ V
left_kept Add V U k h e = add_zero V U h e
left_kept Sub V U k h e = sub_zero V U h e
left_kept BitOr V U k h e = or_zero V U e
left_kept BitXor V U k h e = xor_zero V U e
left_kept Shl V U k h e = shl_zero V U h e
left_kept Shr V U k h e = shr_zero V U e
left_kept Mul V U k h e = mul_one V U h e
left_kept _ V U k h e = broken (sym k)

-- the number is one of each width
neutral_low : (op : Op) (w : ℕ) → 1 ≤ w → neutral_of op < 2 ^ w
neutral_low Mul w h = pow-lt {i = 0} {j = w} h
neutral_low _ w h = pow_pos w

pub neutral_cast : (op : Op) (w : ℕ) → cast_number (sound_width w) (neutral_of op) ≡ neutral_of op
neutral_cast op w = cast_of_small (sound_width w) (neutral_of op) (neutral_low op (sound_width w) (sound_wide w))

pub number_is : (k : Kind) → Plain k → is_open k ≡ false → as_number k ≡ k
number_is (Number w) p o = refl
number_is Truth p o = broken p
number_is Error p o = broken p
number_is Unknown p o = broken o

pub number_value : (k : Kind) → Plain k → is_open k ≡ false → is_value k ≡ true
number_value (Number w) p o = refl
number_value Truth p o = broken p
number_value Error p o = broken p
number_value Unknown p o = broken o

kept_class : (c : Class) (t : Bool) (a b w : Kind) → (c ≡ like) ⊎ (c ≡ shift) → kinds_differ a (class_left c t a b w) ≡ false → is_open a ≡ false → (class_kind c a b ≡ a) × Plain a
kept_class like t a b w i d o = (let p = is_plain a _ d in (ap as_number (closed_join a b o) ∙ number_is a p o, p))
kept_class shift t a b w i d o = (let p = is_plain a _ d in (number_is a p o, p))
kept_class joined t a b w (inl i) d o = absurd (cc)
kept_class joined t a b w (inr i) d o = absurd (cc)
kept_class compare t a b w (inl i) d o = absurd (cc)
kept_class compare t a b w (inr i) d o = absurd (cc)
kept_class logic t a b w (inl i) d o = absurd (cc)
kept_class logic t a b w (inr i) d o = absurd (cc)

kept_place : (c : Class) (i j w : ℕ) → (c ≡ like) ⊎ (c ≡ shift) → nat_eq i 0 ≡ false → left_place c i j w ≡ i
kept_place like i j w k h = ap (λ (n : ℕ). either_width n w) (either_is i j h) ∙ either_is i w h
kept_place shift i j w k h = either_is i w h
kept_place joined i j w k h = refl
kept_place compare i j w (inl k) h = absurd (cc)
kept_place compare i j w (inr k) h = absurd (cc)
kept_place logic i j w (inl k) h = absurd (cc)
kept_place logic i j w (inr k) h = absurd (cc)

left_class : (op : Op) → keeps_left op ≡ true → (class_of op ≡ like) ⊎ (class_of op ≡ shift)
left_class Add k = inl refl
left_class Sub k = inl refl
left_class BitXor k = inl refl
left_class Mul k = inl refl
left_class BitOr k = inl refl
left_class Shl k = inr refl
left_class Shr k = inr refl
left_class _ k = broken (sym k)

pub drops_right : (p q : ℕ) (op : Op) (a : Expr) (n : Literal) → keeps_left op ≡ true → n.value ≡ neutral_of op → has_own a ≡ true → MayStandFor (binary p op a (num q n)) a
drops_right p q op a n k z o =
    record {
      spelled = λ c. c.0;
      own = λ h. o;
      typed = λ s so. record { wherever = λ w f. typed s so w f };
      valued = λ s so want cap f st shows w. valued s so want cap f st shows w;
    }
  where
    typed : (s : Scope) → IsSound s → (w : Kind) → IsFine (expr_tests s w (binary p op a (num q n))) → IsReplaced s w (binary p op a (num q n)) a
    typed s so w f =
        (let rs = sound_reads s so in
        let x = closed s rs a _ f.1.1.0 o in
        let c = kept_class (class_of op) (takes_any op) (own s a) (Number n.width) w (left_class op k) (differs s rs a _ f.1.1.0) x in
        record { kind = sym c.0; named = no_error_name s a (number_value (own s a) c.1 x); fine = refit s rs a _ w x (subst (λ (j : Kind). Fit j w) c.0 f.0) f.1.1.0 })

    valued : (s : Scope) → IsSound s → (want : Kind) → kind_width want ≤ 128 → IsFine (expr_tests s want (binary p op a (num q n))) → (st : Store) → Shows s st → (w : ℕ) → value_of a w st ≡ value_of (binary p op a (num q n)) w st
    valued s so want cap f st shows w =
        (let rs = shown_sound s st shows in
        let x = closed s rs a _ f.1.1.0 o in
        let most = left_most s rs op a (num q n) p want cap f in
        let i = found s rs st shows a _ most f.1.1.0 in
        let some = nonzero_width (own s a) x in
        let j = subst (λ (m : ℕ). nat_eq m 0 ≡ false) (sym i) some in
        let m = left_place (class_of op) (own_width a st) n.width w in
        let kept = kept_value s a _ most f.1.1.0 x st shows m w (kept_place (class_of op) (own_width a st) n.width w (left_class op k) j ∙ i) in
        let static = either_is (kind_width (own s a)) (kind_width (class_left (class_of op) (takes_any op) (own s a) (Number n.width) want)) some in
        let is = (fine_has_static s _ most a f.1.1.0).served st shows w (either_is (kind_width (own s a)) w some ∙ sym static) in
        let u = right_place (class_of op) (own_width a st) n.width w in
        let U : Word = cast_word (sound_width u) (value_of (num q n) u st) in
        let zero_is : U.value ≡ neutral_of op = ap (λ (v : ℕ). cast_number (sound_width u) (cast_number (sound_width (either_width n.width u)) v)) z ∙ (ap (cast_number (sound_width u)) (neutral_cast op (either_width n.width u)) ∙ neutral_cast op u) in
        sym (ap (λ (V : Word). operate op V U) kept ∙ left_kept op (value_of a w st) U k is.word.in_range zero_is))
