-- The widths that the meaning finds are those of the rules, by induction on the expression.
use Rattle.std.proofs.Common.{◌≡◌, ℕ, ◌+◌, zero, suc, Bool, true, false, cond, not, ◌||◌, Option, Some, None, refl, sym, ap, ap₂, ◌∙◌, nat_eq, min, arith}
use borrow.Author.Tests.{eqb-true}
use Rattle.bit_values.specs.Widths.{either_width}
use Rattle.indus_tree.specs.Tree.{Expr, Exprs, num, flag, read, count, index, member, negation, inversion, binary, cast, Shape, one, list, set, dict, Decl}
use Rattle.indus_tree.specs.declared.tree.Ty.{Ty}
use Rattle.indus_tree.specs.declared.tree.Ty.TheVariants as ty
use Rattle.indus_tree.specs.declared.tree.DeclKind.{DeclKind}
use Rattle.indus_tree.specs.declared.tree.DeclKind.TheVariants.{Tele, Sensor, Header, Control}
use Rattle.indus_tree.specs.State.{lookup, width_of, shape_width, held_width}
use Rattle.bit_values.specs.Operators.{Class, like, shift, joined, compare, logic, own_of}
use Rattle.indus_tree.specs.Operators.{class_of}
use Rattle.indus_tree.specs.Value.{own_width}
use Rattle.indus_scopes.specs.Kinds.{kind_of, join, as_number, width_in, kinds_differ, class_left, class_right, class_kind, takes_either}
use Rattle.indus_scopes.specs.Scopes.{Sight, role_from, index_kind, element_kind, item_of, builtin_of, own}
use Rattle.indus_scopes.specs.Uses.{is_missing, indexed, shape_indexed}
use Rattle.indus_rules.specs.Sites.{at_expr, expr_sites}
use Rattle.indus_rules.specs.Rules.{Fine, broken}
use Rattle.indus_rules.specs.declared.rule.Rule.{Rule}
use Rattle.indus_rules.specs.declared.rule.Rule.TheVariants.{NoSuchName, KindDiffers}
use Rattle.indus_scopes.specs.declared.kind.Kind.{Kind}
use Rattle.indus_scopes.specs.declared.kind.Kind.TheVariants.{Number, Truth, Unknown}
use Rattle.indus_types.specs.Fits.{kind_width, KnowsWidths}

-- neither side of a false `or` holds
pub neither : (a b : Bool) → (a || b) ≡ false → (a ≡ false) × (b ≡ false)
neither true b h = absurd (let c : true ≡ false = h in cc)
neither false b h = (refl, h)

pub twice_not : (b : Bool) → not b ≡ false → b ≡ true
twice_not true h = refl
twice_not false h = absurd (let c : true ≡ false = h in cc)

pub kind_of_width : (t : Ty) → kind_width (kind_of t) ≡ width_of t
kind_of_width (ty.Bit w) = refl
kind_of_width ty.Bool = refl

-- the element that a key reads has the declared width
pub element_width : (k : DeclKind) (h : Shape) (ks : Exprs) → shape_indexed k h ks ≡ true → shape_width h ≡ kind_width (element_kind k h)
element_width Sensor (list t n) ks e = sym (kind_of_width t)
element_width Tele (list t n) ks e = absurd (let c : false ≡ true = e in cc)
element_width Header (list t n) ks e = absurd (let c : false ≡ true = e in cc)
element_width Control (list t n) ks e = absurd (let c : false ≡ true = e in cc)
element_width Tele (dict ts t) ks e = sym (kind_of_width t)
element_width Tele (one t) ks e = absurd (let c : false ≡ true = e in cc)
element_width Tele (set ts) ks e = absurd (let c : false ≡ true = e in cc)
element_width Sensor (dict ts t) ks e = sym (kind_of_width t)
element_width Sensor (one t) ks e = absurd (let c : false ≡ true = e in cc)
element_width Sensor (set ts) ks e = absurd (let c : false ≡ true = e in cc)
element_width Header (dict ts t) ks e = sym (kind_of_width t)
element_width Header (one t) ks e = absurd (let c : false ≡ true = e in cc)
element_width Header (set ts) ks e = absurd (let c : false ≡ true = e in cc)
element_width Control (dict ts t) ks e = sym (kind_of_width t)
element_width Control (one t) ks e = absurd (let c : false ≡ true = e in cc)
element_width Control (set ts) ks e = absurd (let c : false ≡ true = e in cc)

index_step : (i : Option Kind) (b : Option Kind) (d : Option Decl) (ks : Exprs) → is_missing (role_from i b d) ≡ false → indexed (role_from i b d) ks ≡ true → held_width d ≡ kind_width (index_kind (role_from i b d))
index_step (Some k) b d ks m h = absurd (let c : false ≡ true = h in cc)
index_step None (Some k) d ks m h = absurd (let c : false ≡ true = h in cc)
index_step None None (Some d) ks m h = element_width d.kind d.shape ks h
index_step None None None ks m h = absurd (let c : true ≡ false = m in cc)

-- where a number is wanted, what is no truth value keeps its width
pub not_truth : (k want : Kind) → kinds_differ k (as_number want) ≡ false → kind_width (as_number k) ≡ kind_width k
not_truth (Number w) want h = refl
not_truth Truth (Number w) h = absurd (let c : true ≡ false = h in cc)
not_truth Truth Truth h = absurd (let c : true ≡ false = h in cc)
not_truth Truth Unknown h = absurd (let c : true ≡ false = h in cc)
not_truth Unknown want h = refl

pub head_fine : (g : Sight) (want : Kind) (e : Expr) → Fine (expr_sites g want e) → (r : Rule) → broken r (at_expr g want e) ≡ false
head_fine g want (num p n) f = f
head_fine g want (flag p b) f = f
head_fine g want (read p x) f = f
head_fine g want (count p x) f = f
head_fine g want (index p x ks) f = f.0
head_fine g want (member p ks x) f = f.0
head_fine g want (negation p a) f = f.0
head_fine g want (inversion p a) f = f.0
head_fine g want (binary p op a b) f = f.0
head_fine g want (cast p v a) f = f.0

-- what a fine expression is does not differ from what is wanted
pub kind_fine : (g : Sight) (want : Kind) (e : Expr) → Fine (expr_sites g want e) → kinds_differ (own g e) want ≡ false
kind_fine g want e f = (neither _ _ (head_fine g want e f KindDiffers)).0

truth_differs : (k : Kind) → kinds_differ Truth (as_number k) ≡ true
truth_differs (Number w) = refl
truth_differs Truth = refl
truth_differs Unknown = refl

pub nonzero : (w : ℕ) (b : Bool) → nat_eq (suc w) 0 ≡ b → b ≡ false
nonzero w true e = absurd (let z : suc w ≡ 0 = eqb-true (suc w) 0 e in omega arith)
nonzero w false e = refl

open_step : (w : ℕ) (k want : Kind) → kinds_differ k (as_number want) ≡ false → either_width w (kind_width k) ≡ kind_width (as_number (cond (nat_eq w 0) k (Number w)))
open_step zero k want h = sym (not_truth k want h)
open_step (suc w) k want h = sym (ap (λ (b : Bool). kind_width (as_number (cond b k (Number (suc w))))) (nonzero w (nat_eq (suc w) 0) refl))

join_width : (a b want want' : Kind) → kinds_differ a (as_number want) ≡ false → kinds_differ b (as_number want') ≡ false → either_width (kind_width a) (kind_width b) ≡ kind_width (as_number (join a b))
join_width (Number w) b want want' h k = open_step w b want' k
join_width Truth b want want' h k = absurd (let d : kinds_differ Truth (as_number want) ≡ true = truth_differs want in let c : true ≡ false = sym d ∙ h in cc)
join_width Unknown b want want' h k = sym (not_truth b want' k)

-- what is no truth value has the width that it is written with
pub width_of_number : (k want : Kind) → kinds_differ k (as_number want) ≡ false → width_in k ≡ kind_width k
width_of_number (Number w) want h = refl
width_of_number Truth (Number w) h = absurd (let c : true ≡ false = h in cc)
width_of_number Truth Truth h = absurd (let c : true ≡ false = h in cc)
width_of_number Truth Unknown h = absurd (let c : true ≡ false = h in cc)
width_of_number Unknown want h = refl

class_step : (c : Class) (t : Bool) (a b want : Kind) (v u : ℕ) → v ≡ kind_width a → u ≡ kind_width b → kinds_differ a (class_left c t a b want) ≡ false → kinds_differ b (class_right c t a b want) ≡ false → own_of c v u ≡ kind_width (class_kind c a b)
class_step like t a b want v u p q h k = ap (λ n. either_width n u) p ∙ ap (either_width (kind_width a)) q ∙ join_width a b _ _ h k
class_step shift t a b want v u p q h k = p ∙ sym (not_truth a _ h)
class_step joined t a b want v u p q h k = ap₂ (λ n m. min 128 (n + m)) (p ∙ sym (width_of_number a _ h)) (q ∙ sym (width_of_number b _ k))
class_step compare t a b want v u p q h k = refl
class_step logic t a b want v u p q h k = refl

pub own_static : KnowsWidths
own_static g s fit (num p n) want f = refl
own_static g s fit (flag p b) want f = refl
own_static g s fit (read p x) want f = fit.names x (f NoSuchName) (twice_not _ (neither _ _ (f KindDiffers)).1)
own_static g s fit (count p x) want f = refl
own_static g s fit (index p x ks) want f = ap (λ ds. held_width (lookup ds x)) fit.decls ∙ index_step (item_of g.decls g.loops x) (builtin_of x) (lookup g.decls x) ks (f.0 NoSuchName) (twice_not _ (neither _ _ (f.0 KindDiffers)).1)
own_static g s fit (member p ks x) want f = refl
own_static g s fit (negation p a) want f = refl
own_static g s fit (inversion p a) want f = own_static g s fit a _ f.1 ∙ sym (not_truth (own g a) _ (kind_fine g _ a f.1))
own_static g s fit (binary p op a b) want f =
    class_step (class_of op) (takes_either op) (own g a) (own g b) want (own_width s a) (own_width s b) (own_static g s fit a _ f.1.0) (own_static g s fit b _ f.1.1) (kind_fine g _ a f.1.0) (kind_fine g _ b f.1.1)
own_static g s fit (cast p v a) want f = refl
