-- What is of a closed kind and breaks no rule may stand at each place that it fits, and keeps its value when it is cast to
-- its own width.
use Rattle.std.proofs.Common.{arith, ◌≡◌, ℕ, zero, suc, ◌≤◌, ◌<◌, ◌^◌, Bool, true, false, cond, not, ◌&&◌, nat_eq, refl, sym, ap, ◌∙◌, subst}
use Rattle.std.proofs.lemmas.Bool.Decides.{nat_tests}
use Rattle.bit_values.specs.Bits.{word}
use Rattle.bit_values.specs.Widths.{either_width, sound_width, cast_word}
use Rattle.bit_values.specs.Operators.{Class, like, shift, joined, compare, logic}
use Rattle.bit_values.proofs.BitsLemmas.{cast_of_small}
use Rattle.lex_text.specs.declared.literal.Literal.{Literal}
use Rattle.rule_tests.specs.Tests.{IsFine}
use Rattle.p4_meaning.specs.Store.{Store}
use Rattle.p4_meaning.specs.Value.{own_width, value_of}
use Rattle.p4_tree.specs.Operators.{class_of}
use Rattle.p4_tree.specs.Tree.{Expr, num, flag, path, valid, applied, error_name, negation, inversion, opposite, binary, conditional, slice, cast}
use Rattle.p4_scopes.specs.Kinds.{width_in, is_open, kinds_differ, widths_differ, as_number, as_value, join, class_kind, choice_kind, class_left, class_right, takes_any, choice_want}
use Rattle.p4_scopes.specs.Scopes.{Stands, missing, typed, held, cells, act, rows, state, function, algorithm, other, is_missing, value_kind, Scope, own}
use Rattle.p4_scopes.specs.Uses.{reads}
use Rattle.p4_scopes.specs.declared.thing.Thing.TheVariants.{Scalar, Header, Struct, Standard, PacketIn, PacketOut}
use Rattle.p4_scopes.specs.declared.kind.Kind.{Kind}
use Rattle.p4_scopes.specs.declared.kind.Kind.TheVariants.{Number, Truth, Error, Unknown}
use Rattle.p4_statement_rules.specs.Expressions.{number_tests, is_error_name, expr_tests}
use Rattle.p4_typing_laws.specs.Soundness.{kind_width, IsSoundKind, IsSoundStands, IsSound}
use Rattle.p4_typing_laws.specs.Widths.{Shows}
use Rattle.p4_typing_laws.proofs.KindWidths.{Plain, is_plain, is_value}
use Rattle.p4_typing_laws.proofs.StaticWidths.{ReadsSound, shown_sound, differs, found, static_sound}
use Rattle.p4_typing_laws.proofs.ValueWidths.{sound_is, fine_has_static}
use Rattle.rewriting_laws.proofs.Closed.{broken, number_open, place_free}

-- what is of kind k stands where w is wanted
abbrev pub Fit : Kind → Kind → Type 0
Fit k w = (widths_differ k w ≡ false) × (kinds_differ k w ≡ false)

pick_first : (t : Bool) (a b : Kind) → t ≡ false → cond t b a ≡ a
pick_first true a b h = broken h
pick_first false a b h = refl

pub closed_join : (a b : Kind) → is_open a ≡ false → join a b ≡ a
closed_join a b h = pick_first (is_open a) a b h

-- ---- where an expression with a width of its own breaks no rule, it breaks none where another kind is wanted that it fits

pick_width : (t : Bool) (k l m : ℕ) → t ≡ false → cond t k m ≡ cond t l m
pick_width true k l m h = broken h
pick_width false k l m h = refl

turned_refit : (a : Expr) (s : Scope) (w v : Kind) → is_open (own s a) ≡ false → IsFine (expr_tests s (as_number (join (own s a) w)) a) → IsFine (expr_tests s (as_number (join (own s a) v)) a)
turned_refit a s w v o f = (let P : Kind → Type 0 = λ k. IsFine (expr_tests s (as_number k) a) in subst P (closed_join (own s a) w o ∙ sym (closed_join (own s a) v o)) f)

number_of_pick : (t : Bool) (a b : Kind) → as_number (cond t b a) ≡ cond t (as_number b) (as_number a)
number_of_pick true a b = refl
number_of_pick false a b = refl

join_of_numbers : (a b : Kind) → Plain a → join (as_number a) (as_number b) ≡ as_number (join a b)
join_of_numbers a b p = ap (λ t. cond t (as_number b) (as_number a)) (number_open a p) ∙ sym (number_of_pick (is_open a) a b)

-- what is wanted of the operands does not rest on what is wanted of the whole
like_same : (a b w v : Kind) → Plain a → is_open (as_number (join a b)) ≡ false → as_number (join (join (as_number a) (as_number b)) w) ≡ as_number (join (join (as_number a) (as_number b)) v)
like_same a b w v p o =
    let k = join (as_number a) (as_number b) in
    let o' : is_open k ≡ false = ap is_open (join_of_numbers a b p) ∙ o in
    ap as_number (closed_join k w o' ∙ sym (closed_join k v o'))

left_same : (c : Class) (t : Bool) (a b w v : Kind) → kinds_differ a (class_left c t a b w) ≡ false → is_open (class_kind c a b) ≡ false → class_left c t a b w ≡ class_left c t a b v
left_same like t a b w v d o = like_same a b w v (is_plain a _ d) o
left_same shift t a b w v d o =
    let o' = sym (number_open a (is_plain a _ d)) ∙ o in
    ap as_number (closed_join a w o' ∙ sym (closed_join a v o'))
left_same joined t a b w v d o = refl
left_same compare true a b w v d o = refl
left_same compare false a b w v d o = refl
left_same logic t a b w v d o = refl

right_same : (c : Class) (t : Bool) (a b w v : Kind) → kinds_differ a (class_left c t a b w) ≡ false → is_open (class_kind c a b) ≡ false → class_right c t a b w ≡ class_right c t a b v
right_same like t a b w v d o = like_same a b w v (is_plain a _ d) o
right_same shift t a b w v d o = refl
right_same joined t a b w v d o = refl
right_same compare true a b w v d o = refl
right_same compare false a b w v d o = refl
right_same logic t a b w v d o = refl

number_refit : (p : ℕ) (n : Literal) (w v : Kind) → nat_eq n.width 0 ≡ false → Fit (Number n.width) v → IsFine (number_tests p n w) → IsFine (number_tests p n v)
number_refit p n w v o fit f =
    (fit, (subst (λ (k : ℕ). nat_eq k 0 ≡ false) (pick_width (nat_eq n.width 0) (width_in w) (width_in v) n.width o) f.1.0, f.1.1))

-- an expression of a closed kind that is fine where w is wanted is fine where v is, which its kind fits
pub refit : (s : Scope) (rs : ReadsSound s) (e : Expr) (w v : Kind) → is_open (own s e) ≡ false → Fit (own s e) v → IsFine (expr_tests s w e) → IsFine (expr_tests s v e)
refit s rs (num p n) w v o fit f = number_refit p n w v o fit f
refit s rs (flag p b) w v o fit f = fit
refit s rs (path p x) w v o fit f = (f.0, (f.1.0, fit))
refit s rs (valid p x) w v o fit f = (f.0, (f.1.0, fit))
refit s rs (applied p t h) w v o fit f = f
refit s rs (error_name p x) w v o fit f = (f.0, fit)
refit s rs (negation p a) w v o fit f = (fit, f.1)
refit s rs (inversion p a) w v o fit f = (fit, turned_refit a s w v (sym (number_open (own s a) (is_plain (own s a) _ (differs s rs a _ f.1))) ∙ o) f.1)
refit s rs (opposite p a) w v o fit f = (fit, turned_refit a s w v (sym (number_open (own s a) (is_plain (own s a) _ (differs s rs a _ f.1))) ∙ o) f.1)
refit s rs (binary p op a b) w v o fit f =
    let d = differs s rs a _ f.1.1.0 in (
      fit,
      (
        f.1.0,
        (
          subst (λ (k : Kind). IsFine (expr_tests s k a)) (left_same (class_of op) (takes_any op) (own s a) (own s b) w v d o) f.1.1.0,
          subst (λ (k : Kind). IsFine (expr_tests s k b)) (right_same (class_of op) (takes_any op) (own s a) (own s b) w v d o) f.1.1.1,
        ),
      ),
    )
refit s rs (conditional p c a b) w v o fit f =
    let k = choice_kind (own s a) (own s b) in
    let same : choice_want (own s a) (own s b) w ≡ choice_want (own s a) (own s b) v = closed_join k (as_value w) o ∙ sym (closed_join k (as_value v) o) in (
      fit,
      (
        f.1.0,
        (
          subst (λ (k : Kind). IsFine (expr_tests s k a)) same f.1.1.0,
          subst (λ (k : Kind). IsFine (expr_tests s k b)) same f.1.1.1,
        ),
      ),
    )
refit s rs (slice p a h l) w v o fit f = (fit, f.1)
refit s rs (cast p t a) w v o fit f = (fit, f.1)

-- what is fine fits
pub fits_there : (s : Scope) (rs : ReadsSound s) (e : Expr) (w : Kind) → IsFine (expr_tests s w e) → Fit (own s e) w
fits_there s rs (num p n) w f = f.0
fits_there s rs (flag p b) w f = f
fits_there s rs (path p x) w f = f.1.1
fits_there s rs (valid p x) w f = f.1.1
fits_there s rs (applied p t h) w f = broken f.1.1
fits_there s rs (error_name p x) w f = f.1
fits_there s rs (negation p a) w f = f.0
fits_there s rs (inversion p a) w f = f.0
fits_there s rs (opposite p a) w f = f.0
fits_there s rs (binary p op a b) w f = f.0
fits_there s rs (conditional p c a b) w f = f.0
fits_there s rs (slice p a h l) w f = f.0
fits_there s rs (cast p t a) w f = f.0

-- ---- one kind

width_same : (v w : ℕ) → nat_eq v 0 ≡ false → nat_eq w 0 ≡ false → (not (nat_eq v 0) && not (nat_eq w 0) && not (nat_eq v w)) ≡ false → v ≡ w
width_same v w h k f = grind (arith, nat_tests, h, k, f)

-- a closed kind that fits a closed kind of a value is that kind
pub same_kind : (a b : Kind) → is_open a ≡ false → is_open b ≡ false → Fit a b → a ≡ b
same_kind (Number v) (Number w) h k f = ap Number (width_same v w h k f.0)
same_kind (Number v) Truth h k f = broken f.1
same_kind (Number v) Error h k f = broken f.1
same_kind (Number v) Unknown h k f = broken k
same_kind Truth (Number w) h k f = broken f.1
same_kind Truth Truth h k f = refl
same_kind Truth Error h k f = broken f.1
same_kind Truth Unknown h k f = broken k
same_kind Error (Number w) h k f = broken f.1
same_kind Error Truth h k f = broken f.1
same_kind Error Error h k f = refl
same_kind Error Unknown h k f = broken k
same_kind Unknown b h k f = broken h

-- ---- a value that is kept by a cast to its own width

pub nonzero_width : (k : Kind) → is_open k ≡ false → nat_eq (kind_width k) 0 ≡ false
nonzero_width (Number w) h = h
nonzero_width Truth h = refl
nonzero_width Error h = refl
nonzero_width Unknown h = broken h

pub either_is : (k w : ℕ) → nat_eq k 0 ≡ false → either_width k w ≡ k
either_is zero w h = broken h
either_is (suc k) w h = refl

pub kept_value : (s : Scope) (e : Expr) (want : Kind) → kind_width want ≤ 128 → IsFine (expr_tests s want e) → is_open (own s e) ≡ false → (st : Store) → Shows s st → (m w : ℕ) → m ≡ kind_width (own s e) → cast_word (sound_width m) (value_of e m st) ≡ value_of e w st
kept_value s e want cap f o st shows m w same =
    let rs = shown_sound s st shows in
    let own_is = found s rs st shows e want cap f in
    let some : nat_eq (own_width e st) 0 ≡ false = subst (λ (n : ℕ). nat_eq n 0 ≡ false) (sym own_is) (nonzero_width (own s e) o) in
    let free = place_free e st m w some in
    let k = kind_width (own s e) in
    let static = either_is k (kind_width want) (nonzero_width (own s e) o) in
    let serves = either_is k w (nonzero_width (own s e) o) ∙ sym static in
    let is = (fine_has_static s want cap e f).served st shows w serves in
    let wide : sound_width m ≡ (value_of e w st).width = ap sound_width (same ∙ sym static) ∙ (sound_is _ (static_sound s rs e want cap f) ∙ sym is.width) in
    let low : (value_of e w st).value < 2 ^ (sound_width m) = subst (λ (n : ℕ). (value_of e w st).value < 2 ^ n) (sym wide) is.word.in_range in
    ap (cast_word (sound_width m)) free ∙ (ap (word (sound_width m)) (cast_of_small (sound_width m) (value_of e w st).value low) ∙ ap (λ (n : ℕ). word n (value_of e w st).value) wide)

-- ---- a choice whose test is known

pub no_error_name : (s : Scope) (e : Expr) → is_value (own s e) ≡ true → is_error_name e ≡ false
no_error_name s (num p n) h = refl
no_error_name s (flag p b) h = refl
no_error_name s (path p x) h = refl
no_error_name s (valid p x) h = refl
no_error_name s (applied p t i) h = refl
no_error_name s (error_name p x) h = broken (sym h)
no_error_name s (negation p a) h = refl
no_error_name s (inversion p a) h = refl
no_error_name s (opposite p a) h = refl
no_error_name s (binary p op a b) h = refl
no_error_name s (conditional p c a b) h = refl
no_error_name s (slice p a i l) h = refl
no_error_name s (cast p t a) h = refl

stands_sound : (st : Stands) → IsSoundStands st → is_missing st ≡ false → reads st ≡ true → IsSoundKind (value_kind st)
stands_sound missing so h k = broken h
stands_sound (typed f t) so h k = broken (sym k)
stands_sound (held a (Scalar t)) so h k = so
stands_sound (held a (Header n)) so h k = broken (sym k)
stands_sound (held a Struct) so h k = broken (sym k)
stands_sound (held a Standard) so h k = broken (sym k)
stands_sound (held a PacketIn) so h k = broken (sym k)
stands_sound (held a PacketOut) so h k = broken (sym k)
stands_sound (cells c) so h k = broken (sym k)
stands_sound (act ks m) so h k = broken (sym k)
stands_sound (rows m) so h k = broken (sym k)
stands_sound state so h k = broken (sym k)
stands_sound (function f) so h k = broken (sym k)
stands_sound algorithm so h k = broken (sym k)
stands_sound other so h k = broken (sym k)

pub sound_reads : (s : Scope) → IsSound s → ReadsSound s
sound_reads s so = record { kinds = λ x h k. stands_sound (s x) (so.paths x) h k }
