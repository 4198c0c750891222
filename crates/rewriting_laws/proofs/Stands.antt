-- What may stand for an expression goes on to do so in all forms, and one may be put after another.
use Rattle.std.proofs.Common.{arith, ◌≡◌, ℕ, ◌+◌, ◌-◌, ◌≤◌, Bool, true, false, cond, not, ◌||◌, refl, sym, ap, ap₂, ◌∙◌}
use Rattle.bit_values.specs.Bits.{Word}
use Rattle.bit_values.specs.Widths.{bit, holds, either_width, sound_width, cast_word}
use Rattle.bit_values.specs.Operators.{Class, like, shift, joined, compare, logic, left_place, right_place}
use Rattle.rule_tests.specs.Tests.{IsFine}
use Rattle.p4_tree.specs.Operators.{class_of, operate}
use Rattle.p4_tree.specs.Tree.{Expr, negation, inversion, opposite, binary, conditional, slice, cast}
use Rattle.p4_tree.specs.declared.statement.PTy.{PTy}
use Rattle.p4_tree.specs.declared.statement.Op.{Op}
use Rattle.p4_meaning.specs.Store.{Store}
use Rattle.p4_meaning.specs.Value.{own_width, value_of, inverted, negated, sliced, width_of}
use Rattle.p4_scopes.specs.Scopes.{Scope, own}
use Rattle.p4_scopes.specs.declared.kind.Kind.{Kind}
use Rattle.p4_scopes.specs.declared.kind.Kind.TheVariants.{Truth}
use Rattle.p4_statement_rules.specs.Expressions.{expr_tests}
use Rattle.p4_rule_laws.proofs.ReplacesLemmas.{replaces_self, replaces_trans, negation_replaced, inversion_replaced, opposite_replaced, binary_replaced, conditional_replaced, slice_replaced, cast_replaced}
use Rattle.p4_typing_laws.specs.Soundness.{kind_width, IsSound}
use Rattle.p4_typing_laws.specs.Widths.{Shows}
use Rattle.p4_typing_laws.proofs.ValueWidths.{fine_has_static}
use Rattle.p4_typing_laws.proofs.StaticWidths.{shown_sound, own_cap, number_cap, value_cap, left_most, right_most, turned_most, choice_most}
use Rattle.rewriting_laws.specs.OwnWidths.{class_has_own, has_own}
use Rattle.rewriting_laws.specs.Standing.{HaveSameValue, MayStandFor}
use Rattle.rewriting_laws.specs.Laws.{StandingComposes, FormsKeepStanding}

pub stands_self : (e : Expr) → MayStandFor e e
stands_self e = record { spelled = λ c. c; own = λ h. h; typed = λ s so. replaces_self s e; valued = λ s so want cap f st shows w. refl }

pub stands_trans : (a b c : Expr) → MayStandFor a b → MayStandFor b c → MayStandFor a c
stands_trans a b c r q =
    record {
      spelled = λ x. q.spelled (r.spelled x);
      own = λ h. q.own (r.own h);
      typed = λ s so. replaces_trans s a b c (r.typed s so) (q.typed s so);
      valued = λ s so want cap f st shows w.
          (let x = (r.typed s so).wherever want f in
          q.valued s so want cap x.fine st shows w ∙ r.valued s so want cap f st shows w);
    }

-- ---- a width of its own

either_kept : (a b c d : Bool) → (a ≡ true → c ≡ true) → (b ≡ true → d ≡ true) → (a || b) ≡ true → (c || d) ≡ true
either_kept true b c d f g h = ap (λ (x : Bool). x || d) (f refl)
either_kept false b true d f g h = refl
either_kept false b false d f g h = g h

class_own_kept : (o : Class) (a b c d : Bool) → (a ≡ true → c ≡ true) → (b ≡ true → d ≡ true) → class_has_own o a b ≡ true → class_has_own o c d ≡ true
class_own_kept like a b c d f g h = either_kept a b c d f g h
class_own_kept shift a b c d f g h = f h
class_own_kept joined a b c d f g h = refl
class_own_kept compare a b c d f g h = refl
class_own_kept logic a b c d f g h = refl

-- the widths of their own are the same, where the first breaks no rule
same_width : (a b : Expr) → MayStandFor a b → (s : Scope) → IsSound s → (want : Kind) → kind_width want ≤ 128 → IsFine (expr_tests s want a) → (st : Store) → Shows s st → own_width b st ≡ own_width a st
same_width a b r s so want cap f st shows =
    let x = (r.typed s so).wherever want f in
    let y = (fine_has_static s want cap a f).found st shows in
    let z = (fine_has_static s want cap b x.fine).found st shows in
    z ∙ (ap kind_width x.kind ∙ sym y)

-- a value that is taken at a width, and what is made of it
at_width : (f : Word → Word) (v : ℕ → Word) (m n : ℕ) (w : Word) → n ≡ m → v m ≡ w → f (cast_word (sound_width n) (v n)) ≡ f (cast_word (sound_width m) w)
at_width f v m n w e h = ap (λ i. f (cast_word (sound_width i) (v i))) e ∙ ap (λ u. f (cast_word (sound_width m) u)) h

truth_cap : kind_width Truth ≤ 128
truth_cap = omega arith

-- ---- each form

negation_valued : (p : ℕ) (a b : Expr) → MayStandFor a b → HaveSameValue (negation p a) (negation p b)
negation_valued p a b r s so want cap f st shows w = ap (λ x. bit (not (holds x))) (r.valued s so Truth truth_cap f.1 st shows 1)

pub stands_negation : (p : ℕ) (a b : Expr) → MayStandFor a b → MayStandFor (negation p a) (negation p b)
stands_negation p a b r = record { spelled = r.spelled; own = λ h. refl; typed = λ s so. negation_replaced s p a b (r.typed s so); valued = negation_valued p a b r }

inversion_valued : (p : ℕ) (a b : Expr) → MayStandFor a b → HaveSameValue (inversion p a) (inversion p b)
inversion_valued p a b r s so want cap f st shows w =
    let most = turned_most s (shown_sound s st shows) a want _ cap f.1 in
    let m = either_width (own_width a st) w in
    at_width inverted (λ i. value_of b i st) m (either_width (own_width b st) w) _ (ap (λ i. either_width i w) (same_width a b r s so _ most f.1 st shows))
    (r.valued s so _ most f.1 st shows m)

pub stands_inversion : (p : ℕ) (a b : Expr) → MayStandFor a b → MayStandFor (inversion p a) (inversion p b)
stands_inversion p a b r = record { spelled = r.spelled; own = r.own; typed = λ s so. inversion_replaced s p a b (r.typed s so); valued = inversion_valued p a b r }

opposite_valued : (p : ℕ) (a b : Expr) → MayStandFor a b → HaveSameValue (opposite p a) (opposite p b)
opposite_valued p a b r s so want cap f st shows w =
    let most = turned_most s (shown_sound s st shows) a want _ cap f.1 in
    let m = either_width (own_width a st) w in
    at_width negated (λ i. value_of b i st) m (either_width (own_width b st) w) _ (ap (λ i. either_width i w) (same_width a b r s so _ most f.1 st shows))
    (r.valued s so _ most f.1 st shows m)

pub stands_opposite : (p : ℕ) (a b : Expr) → MayStandFor a b → MayStandFor (opposite p a) (opposite p b)
stands_opposite p a b r = record { spelled = r.spelled; own = r.own; typed = λ s so. opposite_replaced s p a b (r.typed s so); valued = opposite_valued p a b r }

binary_valued : (p : ℕ) (op : Op) (a b c d : Expr) → MayStandFor a c → MayStandFor b d → HaveSameValue (binary p op a b) (binary p op c d)
binary_valued p op a b c d r q s so want cap f st shows w =
    let rs = shown_sound s st shows in
    let x = left_most s rs op a b p want cap f in
    let y = right_most s rs op a b p want cap f in
    let i = same_width a c r s so _ x f.1.1.0 st shows in
    let j = same_width b d q s so _ y f.1.1.1 st shows in
    let m = left_place (class_of op) (own_width a st) (own_width b st) w in
    let n = right_place (class_of op) (own_width a st) (own_width b st) w in
    ap₂ (operate op)
    (at_width (λ u. u) (λ k. value_of c k st) m _ _ (ap₂ (λ k l. left_place (class_of op) k l w) i j) (r.valued s so _ x f.1.1.0 st shows m))
    (at_width (λ u. u) (λ k. value_of d k st) n _ _ (ap₂ (λ k l. right_place (class_of op) k l w) i j) (q.valued s so _ y f.1.1.1 st shows n))

pub stands_binary : (p : ℕ) (op : Op) (a b c d : Expr) → MayStandFor a c → MayStandFor b d → MayStandFor (binary p op a b) (binary p op c d)
stands_binary p op a b c d r q =
    record {
      spelled = λ x. (r.spelled x.0, q.spelled x.1);
      own = class_own_kept (class_of op) (has_own a) (has_own b) (has_own c) (has_own d) r.own q.own;
      typed = λ s so. binary_replaced s p op a b c d (r.typed s so) (q.typed s so);
      valued = binary_valued p op a b c d r q;
    }

conditional_valued : (p : ℕ) (t a b u c d : Expr) → MayStandFor t u → MayStandFor a c → MayStandFor b d → HaveSameValue (conditional p t a b) (conditional p u c d)
conditional_valued p t a b u c d z r q s so want cap f st shows w =
    let most = choice_most s (shown_sound s st shows) a b want _ cap f.1.1.0 f.1.1.1 in
    let i = same_width a c r s so _ most f.1.1.0 st shows in
    let j = same_width b d q s so _ most f.1.1.1 st shows in
    let m = either_width (either_width (own_width a st) (own_width b st)) w in
    let n = either_width (either_width (own_width c st) (own_width d st)) w in
    let same : n ≡ m = ap₂ (λ k l. either_width (either_width k l) w) i j in
    let test = z.valued s so Truth truth_cap f.1.0 st shows 1 in
    let left = at_width (λ u. u) (λ k. value_of c k st) m n _ same (r.valued s so _ most f.1.1.0 st shows m) in
    let right = at_width (λ u. u) (λ k. value_of d k st) m n _ same (q.valued s so _ most f.1.1.1 st shows m) in
    ap (λ x. cond (holds x) (cast_word (sound_width n) (value_of c n st)) (cast_word (sound_width n) (value_of d n st))) test
    ∙ ap₂ (cond (holds (value_of t 1 st))) left right

pub stands_conditional : (p : ℕ) (t a b u c d : Expr) → MayStandFor t u → MayStandFor a c → MayStandFor b d → MayStandFor (conditional p t a b) (conditional p u c d)
stands_conditional p t a b u c d z r q =
    record {
      spelled = λ x. (z.spelled x.0, r.spelled x.1, q.spelled x.2);
      own = either_kept (has_own a) (has_own b) (has_own c) (has_own d) r.own q.own;
      typed = λ s so. conditional_replaced s p t a b u c d (z.typed s so) (r.typed s so) (q.typed s so);
      valued = conditional_valued p t a b u c d z r q;
    }

slice_valued : (p h l : ℕ) (a b : Expr) → MayStandFor a b → HaveSameValue (slice p a h l) (slice p b h l)
slice_valued p h l a b r s so want cap f st shows w =
    let most = number_cap (own s a) (own_cap s (shown_sound s st shows) a _ f.1.1) in
    ap (sliced (sound_width (h + 1 - l)) l) (r.valued s so _ most f.1.1 st shows 0)

pub stands_slice : (p h l : ℕ) (a b : Expr) → MayStandFor a b → MayStandFor (slice p a h l) (slice p b h l)
stands_slice p h l a b r = record { spelled = λ x. (r.spelled x.0, x.1, x.2); own = λ h. refl; typed = λ s so. slice_replaced s p a b h l (r.typed s so); valued = slice_valued p h l a b r }

cast_valued : (p : ℕ) (t : PTy) (a b : Expr) → MayStandFor a b → HaveSameValue (cast p t a) (cast p t b)
cast_valued p t a b r s so want cap f st shows w =
    let most = value_cap (own s a) (own_cap s (shown_sound s st shows) a _ f.1.1.1) in
    ap (cast_word (sound_width (width_of t))) (r.valued s so _ most f.1.1.1 st shows 0)

pub stands_cast : (p : ℕ) (t : PTy) (a b : Expr) → MayStandFor a b → MayStandFor (cast p t a) (cast p t b)
stands_cast p t a b r = record { spelled = λ x. (x.0, r.spelled x.1); own = λ h. refl; typed = λ s so. cast_replaced s p t a b (r.typed s so); valued = cast_valued p t a b r }

-- ---- the laws

pub standing_composes : StandingComposes
standing_composes = record { itself = stands_self; through = stands_trans }

pub forms_keep_standing : FormsKeepStanding
forms_keep_standing =
    record {
      negation = stands_negation;
      inversion = stands_inversion;
      opposite = stands_opposite;
      binary = stands_binary;
      conditional = stands_conditional;
      slice = stands_slice;
      cast = stands_cast;
    }
