-- An operand behind one that changes nothing may stand for the whole.
use Rattle.std.proofs.Common.{arith, ◌≡◌, ℕ, ◌+◌, ◌*◌, ◌%◌, ◌^◌, ◌<◌, ◌≤◌, Bool, true, false, nat_eq, refl, sym, ap, ap₂, ◌∙◌, subst}
use Rattle.std.specs.Int.Bits.{or_zero_l, xor_zero_l}
use Rattle.std.specs.Prelude.{bit_or, bit_xor}
use Rattle.bit_values.specs.Bits.{Word, word, cast as cast_number}
use Rattle.bit_values.specs.Widths.{either_width, sound_width, cast_word}
use Rattle.bit_values.specs.Operators.{Class, like, left_place, right_place}
use Rattle.bit_values.proofs.BitsLemmas.{cast_of_small}
use Rattle.lex_text.specs.declared.literal.Literal.{Literal}
use Rattle.rule_tests.specs.Tests.{IsFine}
use Rattle.p4_meaning.specs.Store.{Store}
use Rattle.p4_meaning.specs.Value.{own_width, value_of}
use Rattle.p4_tree.specs.Tree.{Expr, num, binary}
use Rattle.p4_tree.specs.Operators.{class_of, operate}
use Rattle.p4_tree.specs.declared.statement.Op.{Op}
use Rattle.p4_tree.specs.declared.statement.Op.TheVariants.{Mul, Add, BitOr, BitXor}
use Rattle.p4_scopes.specs.Kinds.{class_kind, class_right, takes_any, right_want, is_open, as_number, join, like_want}
use Rattle.p4_scopes.specs.Scopes.{Scope, own}
use Rattle.p4_scopes.specs.declared.kind.Kind.{Kind}
use Rattle.p4_scopes.specs.declared.kind.Kind.TheVariants.{Number}
use Rattle.p4_statement_rules.specs.Expressions.{expr_tests}
use Rattle.p4_rule_laws.specs.Replaced.{IsReplaced}
use Rattle.p4_typing_laws.specs.Soundness.{kind_width, IsSound}
use Rattle.p4_typing_laws.specs.Widths.{Shows}
use Rattle.p4_typing_laws.proofs.KindWidths.{Plain, is_plain, join_plain}
use Rattle.p4_typing_laws.proofs.StaticWidths.{shown_sound, differs, found, right_most, ReadsSound}
use Rattle.p4_typing_laws.proofs.ValueWidths.{fine_has_static}
use Rattle.rewriting_laws.specs.Standing.{MayStandFor}
use Rattle.rewriting_laws.specs.OwnWidths.{has_own}
use Rattle.rewriting_laws.proofs.Closed.{broken, closed}
use Rattle.rewriting_laws.proofs.Refits.{Fit, closed_join, same_kind, fits_there, refit, kept_value, either_is, nonzero_width, no_error_name, sound_reads}
use Rattle.simplify_rules.proofs.Choices.{pick_second}
use Rattle.simplify_rules.proofs.RightNeutral.{neutral_of, neutral_cast, number_is, number_value}

-- the kind of the whole is that of the operand
right_kind : (n : ℕ) (a w : Kind) → is_open a ≡ false → Plain a → Fit a (like_want (Number n) a w) → as_number (join (Number n) a) ≡ a
right_kind n a w o p fit = go (nat_eq n 0) refl
  where
    go : (t : Bool) → nat_eq n 0 ≡ t → as_number (join (Number n) a) ≡ a
    go true e = ap as_number (pick_second (nat_eq n 0) (Number n) a e) ∙ number_is a p o
    go false e =
        let first : join (Number n) (as_number a) ≡ Number n = closed_join (Number n) (as_number a) e in
        let whole : join (join (Number n) (as_number a)) w ≡ Number n = ap (λ (k : Kind). join k w) first ∙ closed_join (Number n) w e in
        let there : Fit a (Number n) = subst (Fit a) (ap as_number whole) fit in
        ap as_number (closed_join (Number n) a e) ∙ sym (same_kind a (Number n) o e there)

zero_plus : (n : ℕ) → 0 + n ≡ n
zero_plus n = omega arith

one_times : (n : ℕ) → 1 * n ≡ n
one_times n = omega arith

abbrev pub keeps_right : Op → Bool
keeps_right Add = true
keeps_right BitOr = true
keeps_right BitXor = true
keeps_right Mul = true
keeps_right _ = false

right_kept : (op : Op) (U V : Word) → keeps_right op ≡ true → U.width ≡ V.width → V.value < 2 ^ V.width → U.value ≡ neutral_of op → operate op U V ≡ V
right_kept Add U V k s h e = ap₂ word s (ap₂ (λ (m n : ℕ). (m + V.value) % 2 ^ n) e s ∙ (ap (λ (n : ℕ). n % 2 ^ V.width) (zero_plus V.value) ∙ cast_of_small V.width V.value h))
right_kept BitOr U V k s h e = ap₂ word s (ap (λ (m : ℕ). bit_or m V.value) e ∙ or_zero_l V.value)
right_kept BitXor U V k s h e = ap₂ word s (ap (λ (m : ℕ). bit_xor m V.value) e ∙ xor_zero_l V.value)
right_kept Mul U V k s h e = ap₂ word s (ap₂ (λ (m n : ℕ). m * V.value % 2 ^ n) e s ∙ (ap (λ (n : ℕ). n % 2 ^ V.width) (one_times V.value) ∙ cast_of_small V.width V.value h))
right_kept _ U V k s h e = broken (sym k)

-- what is the same of these operators
record IsLike (op : Op) : Type 0 where
  is : class_of op ≡ like

like_op : (op : Op) → keeps_right op ≡ true → IsLike op
like_op Add k = record { is = refl }
like_op BitOr k = record { is = refl }
like_op BitXor k = record { is = refl }
like_op Mul k = record { is = refl }
like_op _ k = broken (sym k)

pub drops_left : (p q : ℕ) (op : Op) (b : Expr) (n : Literal) → keeps_right op ≡ true → n.value ≡ neutral_of op → has_own b ≡ true → MayStandFor (binary p op (num q n) b) b
drops_left p q op b n k z o =
    record {
      spelled = λ c. c.1;
      own = λ h. o;
      typed = λ s so. record { wherever = λ w f. typed s so w f };
      valued = λ s so want cap f st shows w. valued s so want cap f st shows w;
    }
  where
    wanted : (s : Scope) (w : Kind) → right_want op (Number n.width) (own s b) w ≡ like_want (Number n.width) (own s b) w
    wanted s w = ap (λ (c : Class). class_right c (takes_any op) (Number n.width) (own s b) w) (like_op op k).is

    kind : (s : Scope) (rs : ReadsSound s) (w : Kind) → IsFine (expr_tests s (right_want op (Number n.width) (own s b) w) b) → (is_open (own s b) ≡ false) × Plain (own s b) × (as_number (join (Number n.width) (own s b)) ≡ own s b)
    kind s rs w f =
        (let g = subst (λ (j : Kind). IsFine (expr_tests s j b)) (wanted s w) f in
        let x = closed s rs b _ g o in
        let plain = is_plain (own s b) _ (differs s rs b _ g) in
        (x, plain, right_kind n.width (own s b) w x plain (fits_there s rs b _ g)))

    typed : (s : Scope) → IsSound s → (w : Kind) → IsFine (expr_tests s w (binary p op (num q n) b)) → IsReplaced s w (binary p op (num q n) b) b
    typed s so w f =
        (let rs = sound_reads s so in
        let i = kind s rs w f.1.1.1 in
        let whole = ap (λ (c : Class). class_kind c (Number n.width) (own s b)) (like_op op k).is ∙ i.2 in
        record { kind = sym whole; named = no_error_name s b (number_value (own s b) i.1 i.0); fine = refit s rs b _ w i.0 (subst (λ (j : Kind). Fit j w) whole f.0) f.1.1.1 })

    valued : (s : Scope) → IsSound s → (want : Kind) → kind_width want ≤ 128 → IsFine (expr_tests s want (binary p op (num q n) b)) → (st : Store) → Shows s st → (w : ℕ) → value_of b w st ≡ value_of (binary p op (num q n) b) w st
    valued s so want cap f st shows w =
        (let rs = shown_sound s st shows in
        let i = kind s rs want f.1.1.1 in
        let x = i.0 in
        let most = right_most s rs op (num q n) b p want cap f in
        let at = found s rs st shows b _ most f.1.1.1 in
        let some = nonzero_width (own s b) x in
        let both : either_width n.width (own_width b st) ≡ kind_width (own s b) = ap (either_width n.width) at ∙ (sym (join_plain (Number n.width) (own s b) refl i.1) ∙ ap kind_width i.2) in
        let place : either_width (either_width n.width (own_width b st)) w ≡ kind_width (own s b) = ap (λ (v : ℕ). either_width v w) both ∙ either_is (kind_width (own s b)) w some in
        let l = left_place (class_of op) n.width (own_width b st) w in
        let m = right_place (class_of op) n.width (own_width b st) w in
        let l_is : l ≡ kind_width (own s b) = ap (λ (c : Class). left_place c n.width (own_width b st) w) (like_op op k).is ∙ place in
        let m_is : m ≡ kind_width (own s b) = ap (λ (c : Class). right_place c n.width (own_width b st) w) (like_op op k).is ∙ place in
        let kept = kept_value s b _ most f.1.1.1 x st shows m w m_is in
        let static = either_is (kind_width (own s b)) (kind_width (right_want op (Number n.width) (own s b) want)) some in
        let is = (fine_has_static s _ most b f.1.1.1).served st shows w (either_is (kind_width (own s b)) w some ∙ sym static) in
        let U : Word = cast_word (sound_width l) (value_of (num q n) l st) in
        let wide : U.width ≡ (value_of b w st).width = ap sound_width (l_is ∙ sym m_is) ∙ ap (λ (v : Word). v.width) kept in
        let one_is : U.value ≡ neutral_of op = ap (λ (v : ℕ). cast_number (sound_width l) (cast_number (sound_width (either_width n.width l)) v)) z ∙ (ap (cast_number (sound_width l)) (neutral_cast op (either_width n.width l)) ∙ neutral_cast op l) in
        sym (ap (λ (V : Word). operate op U V) kept ∙ right_kept op U (value_of b w st) k wide is.word.in_range one_is))
