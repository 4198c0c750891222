-- Each expression of a well-typed property is a number or a truth value, and has the width of its own, or where it has none
-- that of its place.
use Rattle.std.proofs.Common.{◌≡◌, ℕ, zero, suc, ◌≤◌, List, Bool, true, false, not, ◌&&◌, Option, Some, None, refl, sym, ap, ◌∙◌, subst, arith, nat_eq}
use Rattle.std.specs.Prelude.{is_some}
use Rattle.std.proofs.lemmas.Bool.{eqb-true}
use Rattle.bit_values.specs.Bits.{Word}
use Rattle.bit_values.specs.Operators.{Class, like, shift, joined, compare, logic, own_of, left_place, right_place}
use Rattle.bit_values.specs.Widths.{either_width, sound_width, cast_word}
use Rattle.indus_tree.specs.Tree.{Expr, Exprs, num, flag, read, count, index, member, negation, inversion, binary, cast, Decl}
use Rattle.indus_tree.specs.State.{lookup, held_width}
use Rattle.indus_tree.specs.Reads.{Seen}
use Rattle.indus_tree.specs.Keys.{at_key, widths_for, index_widths}
use Rattle.indus_tree.specs.Operators.{class_of, operate}
use Rattle.indus_tree.specs.Value.{own_width, value_of, key_of}
use Rattle.indus_tree.specs.declared.tree.Op as indus_op
use Rattle.indus_tree.specs.declared.tree.Op.TheVariants as op
use Rattle.indus_tree.specs.declared.tree.Ty.{Ty}
use Rattle.indus_tree.specs.declared.tree.Ty.TheVariants as ty
use Rattle.indus_scopes.specs.Kinds.{kind_of, join, as_number, kinds_differ, widths_differ, class_kind}
use Rattle.indus_scopes.specs.Scopes.{Sight, role_from, item_of, builtin_of, own}
use Rattle.indus_scopes.specs.Uses.{is_missing, indexed}
use Rattle.indus_scopes.specs.declared.kind.Kind.{Kind}
use Rattle.indus_scopes.specs.declared.kind.Kind.TheVariants.{Number, Truth, Unknown}
use Rattle.indus_rules.specs.Sites.{expr_sites}
use Rattle.indus_rules.specs.Rules.{Fine, bad_width}
use Rattle.indus_rules.specs.declared.rule.Rule.TheVariants.{NoSuchName, KindDiffers, WidthDiffers, BadSize}
use Rattle.indus_types.specs.Fits.{kind_width, Fits}
use Rattle.indus_types.specs.StaticWidths.{IsWidth, IsSound, SeesDeclared}
use Rattle.indus_types.proofs.Widths.{neither, twice_not, nonzero, head_fine, kind_fine, own_static}
use Rattle.indus_types.proofs.SoundSights.{good_bits}
use Rattle.indus_types.proofs.StaticWidthsLemmas.{kept, sound_is, read_wide, index_wide}
use Rattle.indus_types.proofs.SeenWidths.{at_key_has, sees_fits}
use Rattle.lowered_code.specs.Expressions.{is_bare}
use Rattle.lowered_code.specs.Suiting.{HasPlace, IsOfType, IsIndex}
use Rattle.whole_properties.proofs.Declarations.{clash}

-- ---- kinds

-- a number or a truth value
abbrev IsKind : Kind → Type 0
IsKind (Number w) = Unit {0}
IsKind Truth = Unit {0}
IsKind Unknown = ⊥

wide_kind : (k : Kind) → IsWidth (kind_width k) → IsKind k
wide_kind (Number w) i = tt
wide_kind Truth i = tt
wide_kind Unknown i = absurd (let least = i.least in omega (arith, least))

number_kind : (k : Kind) → IsKind (as_number k)
number_kind (Number w) = tt
number_kind Truth = tt
number_kind Unknown = tt

class_is : (c : Class) (a b : Kind) → IsKind (class_kind c a b)
class_is like a b = number_kind (join a b)
class_is shift a b = number_kind a
class_is joined a b = tt
class_is compare a b = tt
class_is logic a b = tt

-- where a number of so many bits is wanted, there is one of these or of none
number_own :
    (k : Kind) (w : ℕ) → 1 ≤ w → kinds_differ k (Number w) ≡ false → widths_differ k (Number w) ≡ false →
    either_width (kind_width k) w ≡ w
number_own (Number zero) w some h d = refl
number_own (Number (suc v)) zero some h d = absurd (omega (arith, some))
number_own (Number (suc v)) (suc w) some h d = go (nat_eq (suc v) 0) (nat_eq (suc w) 0) (nonzero v _ refl) (nonzero w _ refl) d
  where
    go : (a b : Bool) → a ≡ false → b ≡ false → (not a && not b && not (nat_eq (suc v) (suc w))) ≡ false → suc v ≡ suc w
    go false false e f d = eqb-true (suc v) (suc w) (twice_not (nat_eq (suc v) (suc w)) d)
    go true b e f d = clash e
    go false true e f d = clash f
number_own Truth w some h d = absurd (cc)
number_own Unknown w some h d = refl

truth_own : (k : Kind) → IsKind k → kinds_differ k Truth ≡ false → kind_width k ≡ 1
truth_own (Number w) i h = absurd (cc)
truth_own Truth i h = refl
truth_own Unknown i h = absurd i

-- ---- operators

made_width :
    (o : indus_op.Op) (v u w : ℕ) (x y : Word) →
    (operate o (cast_word (sound_width (left_place (class_of o) v u w)) x) (cast_word (sound_width (right_place (class_of o) v u w)) y)).width
    ≡ sound_width (either_width (own_of (class_of o) v u) w)
made_width op.Mul v u w x y = refl
made_width op.Add v u w x y = refl
made_width op.Sub v u w x y = refl
made_width op.Shl v u w x y = refl
made_width op.Shr v u w x y = refl
made_width op.BitAnd v u w x y = refl
made_width op.BitXor v u w x y = refl
made_width op.BitOr v u w x y = refl
made_width op.Less v u w x y = refl
made_width op.LessEq v u w x y = refl
made_width op.More v u w x y = refl
made_width op.MoreEq v u w x y = refl
made_width op.Equal v u w x y = refl
made_width op.Differ v u w x y = refl
made_width op.Both v u w x y = refl
made_width op.Either v u w x y = refl

-- of two operands one has a width
like_some : (a b : Bool) (v u : ℕ) → (a && b) ≡ false → (a ≡ false → 1 ≤ v) → (b ≡ false → 1 ≤ u) → 1 ≤ either_width v u
like_some true b zero u h f k = k h
like_some false b zero u h f k = absurd (let z = f refl in omega (arith, z))
like_some a b (suc v) u h f k = omega arith

some_number : (w : ℕ) → nat_eq w 0 ≡ false → 1 ≤ w
some_number zero o = absurd (cc)
some_number (suc w) o = omega arith

indexed_some :
    (i b : Option Kind) (o : Option Decl) (ks : Exprs) → is_missing (role_from i b o) ≡ false →
    indexed (role_from i b o) ks ≡ true → is_some o ≡ true
indexed_some i b (Some d) ks m h = refl
indexed_some (Some k) b None ks m h = absurd (cc)
indexed_some None (Some k) None ks m h = absurd (cc)
indexed_some None None None ks m h = absurd (cc)

-- ---- expressions

module _ (g : Sight) (sound : IsSound g) where
  own_kind : (e : Expr) (want : Kind) → Fine (expr_sites g want e) → IsKind (own g e)
  own_kind (num p n) want f = tt
  own_kind (flag p b) want f = tt
  own_kind (read p x) want f = wide_kind _ (read_wide g sound x (f NoSuchName) (twice_not _ (neither _ _ (f KindDiffers)).1))
  own_kind (count p x) want f = tt
  own_kind (index p x ks) want f = wide_kind _ (index_wide g sound x ks (f.0 NoSuchName) (twice_not _ (neither _ _ (f.0 KindDiffers)).1))
  own_kind (member p ks x) want f = tt
  own_kind (negation p a) want f = tt
  own_kind (inversion p a) want f = number_kind (own g a)
  own_kind (binary p o a b) want f = class_is (class_of o) (own g a) (own g b)
  own_kind (cast p w a) want f = tt

  module _ (s : Seen) (sees : SeesDeclared g s) where
    fits : Fits g s
    fits = sees_fits g s sound sees

    -- what stands where a value of a type is wanted
    pub of_type : (t : Ty) → bad_width t ≡ false → (e : Expr) → Fine (expr_sites g (kind_of t) e) → IsOfType s t e
    of_type (ty.Bit w) b e f = ap (λ n. either_width n w) (own_static g s fits e (Number w) f) ∙ number_own (own g e) w (good_bits w b).least (kind_fine g (Number w) e f) (head_fine g (Number w) e f WidthDiffers)
    of_type ty.Bool b e f = own_static g s fits e Truth f ∙ truth_own (own g e) (own_kind e Truth f) (kind_fine g Truth e f)

    -- a width that an expression has of its own is one that a value can have
    wide_read :
        (p : ℕ) (x : List ℕ) (want : Kind) → Fine (expr_sites g want (read p x)) → IsWidth (own_width s (read p x))
    wide_read p x want f = subst IsWidth (sym (own_static g s fits (read p x) want f)) (read_wide g sound x (f NoSuchName) (twice_not _ (neither _ _ (f KindDiffers)).1))

    wide_index :
        (p : ℕ) (x : List ℕ) (ks : Exprs) (want : Kind) → Fine (expr_sites g want (index p x ks)) →
        IsWidth (own_width s (index p x ks))
    wide_index p x ks want f = subst IsWidth (sym (own_static g s fits (index p x ks) want f)) (index_wide g sound x ks (f.0 NoSuchName) (twice_not _ (neither _ _ (f.0 KindDiffers)).1))

    key_width :
        (p : ℕ) (x : List ℕ) (ks : Exprs) (want : Kind) → Fine (expr_sites g want (index p x ks)) → (us : List Word) →
        (at_key s x (lookup s.hop.decls x) us).width ≡ sound_width (held_width (lookup s.hop.decls x))
    key_width p x ks want f us =
        subst (λ ds. (at_key s x (lookup ds x) us).width ≡ sound_width (held_width (lookup ds x))) (sym sees.decls)
        (at_key_has g s sees x us (lookup g.decls x) refl (indexed_some (item_of g.decls g.loops x) (builtin_of x) (lookup g.decls x) ks (f.0 NoSuchName) (twice_not _ (neither _ _ (f.0 KindDiffers)).1)))

    pub has_place : (e : Expr) (want : Kind) → Fine (expr_sites g want e) → HasPlace s e
    has_place (num p n) want f w = refl
    has_place (flag p b) want f w = refl
    has_place (read p x) want f w = (let is = wide_read p x want f in sym (ap sound_width (kept (own_width s (read p x)) w is) ∙ sound_is (own_width s (read p x)) is))
    has_place (count p x) want f w = refl
    has_place (index p x ks) want f w =
        key_width p x ks want f (key_of s ks (widths_for index_widths (lookup s.hop.decls x))) ∙ ap sound_width (sym (kept (own_width s (index p x ks)) w (wide_index p x ks want f)))
    has_place (member p ks x) want f w = refl
    has_place (negation p a) want f w = refl
    has_place (inversion p a) want f w = has_place a _ f.1 w
    has_place (binary p o a b) want f w =
        (let v = own_width s a in let u = own_width s b in
        made_width o v u w (value_of s a (left_place (class_of o) v u w)) (value_of s b (right_place (class_of o) v u w)))
    has_place (cast p v a) want f w = ap sound_width (sym (kept v w (good_bits v (f.0 BadSize))))

    -- what is not bare has a width of its own
    some_own : (e : Expr) (want : Kind) → Fine (expr_sites g want e) → is_bare e ≡ false → 1 ≤ own_width s e
    some_own (num p n) want f o = some_number n.width o
    some_own (flag p b) want f o = omega arith
    some_own (read p x) want f o = (wide_read p x want f).least
    some_own (count p x) want f o = omega arith
    some_own (index p x ks) want f o = (wide_index p x ks want f).least
    some_own (member p ks x) want f o = omega arith
    some_own (negation p a) want f o = omega arith
    some_own (inversion p a) want f o = some_own a _ f.1 o
    some_own (binary p op.Mul a b) want f o = like_some (is_bare a) (is_bare b) (own_width s a) (own_width s b) o (some_own a _ f.1.0) (some_own b _ f.1.1)
    some_own (binary p op.Add a b) want f o = like_some (is_bare a) (is_bare b) (own_width s a) (own_width s b) o (some_own a _ f.1.0) (some_own b _ f.1.1)
    some_own (binary p op.Sub a b) want f o = like_some (is_bare a) (is_bare b) (own_width s a) (own_width s b) o (some_own a _ f.1.0) (some_own b _ f.1.1)
    some_own (binary p op.BitAnd a b) want f o = like_some (is_bare a) (is_bare b) (own_width s a) (own_width s b) o (some_own a _ f.1.0) (some_own b _ f.1.1)
    some_own (binary p op.BitXor a b) want f o = like_some (is_bare a) (is_bare b) (own_width s a) (own_width s b) o (some_own a _ f.1.0) (some_own b _ f.1.1)
    some_own (binary p op.BitOr a b) want f o = like_some (is_bare a) (is_bare b) (own_width s a) (own_width s b) o (some_own a _ f.1.0) (some_own b _ f.1.1)
    some_own (binary p op.Shl a b) want f o = some_own a _ f.1.0 o
    some_own (binary p op.Shr a b) want f o = some_own a _ f.1.0 o
    some_own (binary p op.Less a b) want f o = omega arith
    some_own (binary p op.LessEq a b) want f o = omega arith
    some_own (binary p op.More a b) want f o = omega arith
    some_own (binary p op.MoreEq a b) want f o = omega arith
    some_own (binary p op.Equal a b) want f o = omega arith
    some_own (binary p op.Differ a b) want f o = omega arith
    some_own (binary p op.Both a b) want f o = omega arith
    some_own (binary p op.Either a b) want f o = omega arith
    some_own (cast p v a) want f o = (good_bits v (f.0 BadSize)).least

    pub is_index : (e : Expr) (want : Kind) → Fine (expr_sites g want e) → IsIndex s e
    is_index e want f = record { place = has_place e want f; own = some_own e want f }
